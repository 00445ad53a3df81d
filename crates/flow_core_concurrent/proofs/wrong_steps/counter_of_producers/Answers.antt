use Rattle.std.proofs.Common.{◌≡◌, ℕ, [], ◌∷◌, refl, arith}
use Rattle.flow_core_concurrent.specs.Choices.{to_claim, to_store}
use Rattle.flow_core_concurrent.proofs.Choices.{choices_are_ways}
use Rattle.flow_core_concurrent.proofs.Fitting.{pairs_meant, pairs_fit}
use Rattle.flow_core_concurrent.specs.Ways.{opens}
use Rattle.flow_core_concurrent.proofs.wrong_steps.counter_of_producers.Goals as goal

pub returns-clause-meaning : goal.returns-clause-meaning
returns-clause-meaning c = pairs_meant

pub returns-clause-counts : goal.returns-clause-counts
returns-clause-counts c = record {
  is_fit = pairs_fit;
  reached = opens;
  is_not_good = λ g. let e : ◌≡◌ {A = ℕ} 1 2 = g.words_count 1 (omega arith) in omega (arith, e);
}

pub returns-clause-opens : goal.returns-clause-opens
returns-clause-opens c = record {
  is_fit = pairs_fit;
  reached = choices_are_ways _ _ (to_claim 0 0 ∷ to_store 0 ∷ []) refl;
  is_not_good = λ g. let e : ◌≡◌ {A = ℕ} 0 1 = g.words_count 1 (omega arith) in omega (arith, e);
}
