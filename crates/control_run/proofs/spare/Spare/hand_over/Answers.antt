use Rattle.std.proofs.Common.{◌++◌, List, drop, take, ap, ◌∙◌}
use Rattle.flow_core_laws.specs.declared.activation.Activation.{Activation}
use Rattle.control_run.proofs.InPlace.{part-made}
use Rattle.control_run.proofs.spare.Spare.hand_over.Goals as goal

pub returns-clause-list : goal.returns-clause-list
returns-clause-list c =
    let few = c.move_some-count.ensures.few in
    c.move_some-count.ensures.list
    ∙ ap (λ (xs : List Activation). xs ++ take c.move_some-count.result (drop c.self.inside.first c.self.inside.activations)) c.reserve.ensures
    ∙ ap (λ (xs : List Activation). c.args.into.now ++ xs) (part-made c.self.inside.activations c.self.inside.first c.self.inside.made c.move_some-count.result c.self.invariant.order few)
    ∙ ap (λ (xs : List Activation). c.args.into.now ++ take c.move_some-count.result xs) c.self.view_is
