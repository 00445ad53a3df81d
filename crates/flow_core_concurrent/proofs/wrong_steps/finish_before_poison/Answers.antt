use Rattle.std.proofs.Common.{◌≡◌, ℕ, [], ◌∷◌, refl, arith}
use Rattle.flow_core_concurrent.specs.Choices.{to_claim}
use Rattle.flow_core_concurrent.proofs.Choices.{choices_are_ways}
use Rattle.flow_core_concurrent.proofs.Fitting.{trapped_fit}
use Rattle.flow_core_concurrent.proofs.wrong_steps.finish_before_poison.Goals as goal

pub returns : goal.returns
returns c = record {
  is_fit = trapped_fit;
  reached = choices_are_ways _ _ (to_claim 0 1 ∷ []) refl;
  is_not_good = λ g. let e : ◌≡◌ {A = ℕ} 0 1 = g.cells_are_filled_once 0 in omega (arith, e);
}
