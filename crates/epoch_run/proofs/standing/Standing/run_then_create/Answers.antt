use Rattle.std.proofs.Common.{◌≡◌, [], arith, ap, length, List, refl, subst, sym, ◌∙◌}
use Rattle.control_run.specs.Stretches.{RunSoFar, created_so_far}
use Rattle.flow_core_laws.specs.declared.activation.Activation.{Activation}
use Rattle.stream_match_layouts.specs.Layout.{IsLayoutOf, TakesMore}
use Rattle.stream_match_layouts.specs.declared.layout.Layout.{Layout}
use Rattle.epoch_run.specs.Standing.{HasAdvanced}
use Rattle.epoch_run.specs.declared.standing.Standing.{Standing}
use Rattle.epoch_run.proofs.Going.{as_many_ends, stands_next, takes_more}
use Rattle.epoch_run.proofs.standing.Standing.run_then_create.Goals as goal

pub give_up_ended-requires : goal.give_up_ended-requires
give_up_ended-requires g c =
    let n = as_many_ends c.args.code.now c.args.input.now c.args.budgets c.args.self.now c.requires.budgets c.requires.stands c.run.new.self.held c.in_ok-run.ensures.run.held in
    let f = c.requires.stands.lawful.activations_are_few in
    omega (arith, n, f)

pub create_behind-requires-clause-takes : goal.create_behind-requires-clause-takes
create_behind-requires-clause-takes g c after next = λ advanced.
    let s = c.args.self.now in
    let control : c.give_up_ended.new.self.control ≡ s.control =
    ap (λ (r : Standing). r.control) c.give_up_ended.ensures.same ∙ ap (λ (r : Standing). r.control) c.in_ok-run.ensures.same in
    let layout : c.give_up_ended.new.self.layout ≡ s.layout =
    ap (λ (r : Standing). r.layout) c.give_up_ended.ensures.same ∙ ap (λ (r : Standing). r.layout) c.in_ok-run.ensures.same in
    subst (λ (l : Layout). TakesMore l next) (sym layout)
    (takes_more c.args.code.now c.args.input.now c.args.budgets s c.requires.budgets c.requires.stands c.args.size.activations after [] next refl
    (subst (λ (r : RunSoFar). HasAdvanced c.args.size.activations r after [] next) control advanced))

pub returns-clause-stands : goal.returns-clause-stands
returns-clause-stands g c =
    let s = c.args.self.now in
    let all : List Activation = created_so_far s.control in
    let m = c.in_ok-create_behind.ensures.next in
    let control : c.give_up_ended.new.self.control ≡ s.control =
    ap (λ (r : Standing). r.control) c.give_up_ended.ensures.same ∙ ap (λ (r : Standing). r.control) c.in_ok-run.ensures.same in
    let layout : c.give_up_ended.new.self.layout ≡ s.layout =
    ap (λ (r : Standing). r.layout) c.give_up_ended.ensures.same ∙ ap (λ (r : Standing). r.layout) c.in_ok-run.ensures.same in
    stands_next c.args.code.now c.args.input.now c.args.budgets s c.requires.budgets c.requires.stands c.args.size.activations c.create_behind.new.control
    [] m.next refl (subst (λ (r : RunSoFar). HasAdvanced c.args.size.activations r c.create_behind.new.control [] m.next) control m.advanced)
    c.give_up_ended.new.self (c.give_up_ended.ensures.run c.args.code.now c.args.input.now c.args.budgets all c.in_ok-run.ensures.run)
    c.create_behind.new.activations c.create_behind.new.layout m.are_behind
    (m.laid all (subst (λ (l : Layout). IsLayoutOf l all) (sym layout) c.requires.stands.laid))
    (c.in_ok-create_behind.ensures.streams ∙ ap (λ (l : Layout). length l.writers) layout) (c.in_ok-create_behind.ensures.input ∙ ap (λ (l : Layout). l.input_len) layout)

pub returns-clause-advanced : goal.returns-clause-advanced
returns-clause-advanced g c =
    let s = c.args.self.now in
    let m = c.in_ok-create_behind.ensures.next in
    let control : c.give_up_ended.new.self.control ≡ s.control =
    ap (λ (r : Standing). r.control) c.give_up_ended.ensures.same ∙ ap (λ (r : Standing). r.control) c.in_ok-run.ensures.same in
    record {
      next = m.next;
      advanced = subst (λ (r : RunSoFar). HasAdvanced c.args.size.activations r c.create_behind.new.control [] m.next) control m.advanced;
    }
