use Rattle.std.proofs.Common.{List, ap, length, subst, sym, ◌∙◌}
use Rattle.flow_core_laws.specs.declared.activation.Activation.{Activation}
use Rattle.stream_match_layouts.specs.Layout.{IsLayoutOf, TakesMore}
use Rattle.stream_match_layouts.specs.declared.layout.Layout.{Layout}
use Rattle.control_run.specs.Stretches.{created_so_far}
use Rattle.epoch_run.specs.NextSpans.{ComeBehind}
use Rattle.epoch_run.specs.Standing.{HasAdvanced}
use Rattle.epoch_run.proofs.Going.{stands_next, takes_more}
use Rattle.epoch_run.proofs.standing.Standing.create_beside.Goals as goal

pub add-requires-clause-takes : goal.add-requires-clause-takes
add-requires-clause-takes g c =
    subst (λ (l : Layout). TakesMore l c.run_beside.new.next) (sym c.in_ok-laid.ensures.layout)
    (takes_more c.args.code.now c.args.input.now c.args.budgets c.args.self.now c.requires.budgets c.requires.stands c.args.size.activations c.run_beside.new.self.control
    c.new-next.result c.run_beside.new.next c.new-next.ensures c.in_ok-laid.ensures.advanced)

pub add-requires-clause-laid : goal.add-requires-clause-laid
add-requires-clause-laid g c =
    subst (λ (l : Layout). ComeBehind l c.run_beside.new.next c.in_ok-laid.laid) (sym c.in_ok-laid.ensures.layout) c.in_ok-laid.ensures.laid

pub returns-clause-stands : goal.returns-clause-stands
returns-clause-stands g c =
    let s = c.args.self.now in
    let all : List Activation = created_so_far s.control in
    let same = c.in_ok-laid.ensures.layout in
    stands_next c.args.code.now c.args.input.now c.args.budgets s c.requires.budgets c.requires.stands c.args.size.activations c.run_beside.new.self.control
    c.new-next.result c.run_beside.new.next c.new-next.ensures c.in_ok-laid.ensures.advanced
    c.run_beside.new.self c.in_ok-laid.ensures.run
    c.add.new.activations c.add.new.layout c.in_ok-add.ensures.activations
    (c.in_ok-add.ensures.laid all (subst (λ (l : Layout). IsLayoutOf l all) (sym same) c.requires.stands.laid))
    (c.in_ok-add.ensures.streams ∙ ap (λ (l : Layout). length l.writers) same) (c.in_ok-add.ensures.input ∙ ap (λ (l : Layout). l.input_len) same)

pub returns-clause-advanced : goal.returns-clause-advanced
returns-clause-advanced g c = record {
  next = c.run_beside.new.next;
  advanced = subst (λ (xs : List Activation). HasAdvanced c.args.size.activations c.args.self.now.control c.run_beside.new.self.control xs c.run_beside.new.next)
      c.new-next.ensures c.in_ok-laid.ensures.advanced;
}
