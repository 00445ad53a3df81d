use Rattle.std.proofs.Common.{◌≡◌, Some, [], ◌∷◌, refl}
use Rattle.std.specs.Prelude.{pos}
use Rattle.flow_core_laws.specs.declared.elem.Elem.TheVariants.{Value, Poison}
use Rattle.flow_core_concurrent.specs.Choices.{to_claim}
use Rattle.flow_core_laws.specs.Plans.{cell_source}
use Rattle.flow_core_concurrent.proofs.Choices.{choices_are_ways}
use Rattle.flow_core_concurrent.proofs.Fitting.{trapped_meant, trapped_fit}
use Rattle.flow_core_concurrent.proofs.wrong_steps.outputs_of_a_trapped_frame.Goals as goal

pub returns-clause-meaning : goal.returns-clause-meaning
returns-clause-meaning c = trapped_meant

pub returns-clause-stores : goal.returns-clause-stores
unfolding cell_source
returns-clause-stores c = record {
  is_fit = trapped_fit;
  reached = choices_are_ways _ _ (to_claim 0 1 ∷ []) refl;
  is_not_good = λ g. let e : Some (Poison 1) ≡ Some (Value (pos 41)) = g.cells_hold_the_meaning 0 (Value (pos 41)) refl in cc;
}
