use Rattle.std.proofs.Common.{◌++◌, ◌∷◌, [], List, refl, ap, ◌∙◌}
use Rattle.flow_core_laws.specs.declared.activation.Activation.{Activation}
use Rattle.control_run.proofs.InPlace.{added-none, added-one, made-more, made-same, written-back}
use Rattle.control_run.proofs.spare.Spare.spawn.Goals as goal

pub returns-in-Some-clause-list : goal.returns-in-Some-clause-list
returns-in-Some-clause-list c =
    made-same c.self.inside.activations c.make_place.new.activations _ c.self.inside.first c.self.inside.made c.set_activation.new.one c.in_ok-make_place.ensures.kept
    (written-back _ _ _ _ c.as_mut_slice.ensures.value)
    ∙ c.self.view_is
    ∙ added-none _ c.args.made.now c.args.number _ _ c.set_activation.new.one c.set_activation.result c.in-Some.end c.set_activation.ensures.one c.in-Some.is

pub returns-in-None-clause-list : goal.returns-in-None-clause-list
returns-in-None-clause-list c =
    made-more c.self.inside.activations c.make_place.new.activations _ c.self.inside.first c.self.inside.made _ c.set_activation.new.one refl
    c.self.invariant.order c.in_ok-make_place.ensures.fits.there c.in_ok-make_place.ensures.kept (written-back _ _ _ _ c.as_mut_slice.ensures.value)
    ∙ ap (λ (xs : List Activation). xs ++ c.set_activation.new.one ∷ []) c.self.view_is
    ∙ added-one _ c.args.made.now c.args.number _ _ c.set_activation.new.one c.set_activation.result c.set_activation.ensures.one c.in-None.is
