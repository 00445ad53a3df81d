use Rattle.std.proofs.Common.{List, ap, subst, sym, ◌∙◌}
use Rattle.epoch_run_bodies.specs.Frames.{code_ends}
use Rattle.flow_core_laws.specs.declared.activation.Activation.{Activation}
use Rattle.os_code.specs.Codes.{parts_of}
use Rattle.stream_match_layouts.specs.Layout.{IsLayoutOf}
use Rattle.epoch_run.proofs.Going.{are_all}
use Rattle.epoch_run.proofs.standing.Standing.run_at_once.Goals as goal

pub run_at_once-requires-clause-laid : goal.run_at_once-requires-clause-laid
run_at_once-requires-clause-laid g c κs within =
    subst (IsLayoutOf c.args.self.now.layout)
    (sym (c.as_slice.ensures ∙ are_all c.args.code.now c.args.input.now c.args.budgets c.args.self.now c.requires.budgets c.requires.stands c.requires.all))
    c.requires.stands.laid

pub returns-clause-ends : goal.returns-clause-ends
returns-clause-ends g c =
    c.in_ok-self.ensures
    ∙ ap (λ (xs : List Activation). code_ends (parts_of c.args.code.now) xs c.args.input.now c.args.budgets.task)
    (c.as_slice.ensures ∙ are_all c.args.code.now c.args.input.now c.args.budgets c.args.self.now c.requires.budgets c.requires.stands c.requires.all)
