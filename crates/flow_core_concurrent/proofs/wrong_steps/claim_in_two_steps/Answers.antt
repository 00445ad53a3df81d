use Rattle.std.proofs.Common.{◌≡◌, ℕ, [], ◌∷◌, refl, arith}
use Rattle.flow_core_concurrent.specs.Choices.{to_split, to_claim}
use Rattle.flow_core_concurrent.specs.TwoProducers as two
use Rattle.flow_core_concurrent.specs.WrongSteps.{none_runs, one_producer_runs}
use Rattle.flow_core_concurrent.proofs.Choices.{choices_are_steps, choices_are_ways}
use Rattle.flow_core_concurrent.proofs.Fitting.{two_fit}
use Rattle.flow_core_concurrent.proofs.wrong_steps.claim_in_two_steps.Goals as goal

pub returns : goal.returns
returns c = record {
  loads_at = choices_are_ways _ _ (to_split 0 ∷ []) refl;
  loads_open = refl;
  is_a_claim_at_once = refl;
  another_claims_between = (choices_are_steps two.known none_runs one_producer_runs (to_claim 0 0) refl).0;
  breaks = record {
    is_fit = two_fit;
    reached = choices_are_ways _ _ (to_split 0 ∷ to_claim 0 0 ∷ []) refl;
    is_not_good = λ g. let e : ◌≡◌ {A = ℕ} 2 1 = g.taken_is_run_by_one 0 in omega (arith, e);
  };
}
