-- A run means the same with bodies that make the same of all inputs that the activations can have.
use Rattle.std.proofs.Common.{◌≡◌, ℕ, zero, suc, ◌<◌, ℤ, List, [], ◌++◌, Option, Some, None, map, length, get_or, refl, sym, ap, ◌∙◌, arith}
use Rattle.std.specs.Option.{option_map, option_map_or, option_or}
use Rattle.std.proofs.lemmas.List.{length-map, get_or_default, same_lists}
use Rattle.std.proofs.lemmas.Option.{slice_get-get_or, slice_get_within}
use Rattle.flow_core_laws.proofs.Gathering.{length-gathered}
use Rattle.flow_core_laws.proofs.Rounds.{after, length-after, length-round, outcome_at-round}
use Rattle.flow_core_laws.proofs.Stretches.{slice_get-append_left}
use Rattle.flow_core_laws.specs.declared.elem.Elem.{Elem}
use Rattle.flow_core_laws.specs.declared.task_end.TaskEnd.TheVariants.{Poisoned}
use Rattle.flow_core_laws.specs.Element.{Source}
use Rattle.flow_core_laws.specs.Poisoning.{least_root, poisoning, values_of}
use Rattle.flow_core_laws.proofs.OneMore.{length-values}
use Rattle.flow_core_laws.specs.Outcome.{State, outcome_at, outcome_of, over_budget}
use Rattle.flow_core_laws.specs.Round.{inputs_in, meaning, round, rounds}
use Rattle.flow_core_laws.specs.Streams.{stream_element, stream_meaning, stream_reads}
use Rattle.flow_core_laws.specs.declared.activation.Activation.{Activation}
use Rattle.flow_core_laws.specs.declared.outcome.Outcome.{Outcome}
use Rattle.os_code.specs.Outcomes.{code_outcome}
use Rattle.os_code.specs.declared.parts.Parts.{Parts}
use Rattle.epoch_run_bodies.specs.Frames.{frame_outcome}
use Rattle.epoch_run_bodies.specs.Laws.{Agree}
use Rattle.epoch_run_bodies.proofs.Counts.{length-reads}
use Rattle.epoch_run_bodies.proofs.Serving.{no_activation}

module _ (reads : ℕ → List Source) (one another : ℕ → List ℤ → Outcome) (count : ℕ)
    (agree : (a : ℕ) (inputs : List ℤ) → a < count → length inputs ≡ length (reads a) → one a inputs ≡ another a inputs) where
  abbrev body : ℕ → List Elem → Outcome
  body = poisoning one

  abbrev other : ℕ → List Elem → Outcome
  other = poisoning another

  -- with the same poison among the inputs, or else the same values
  by_inputs : (a : ℕ) → a < count → (es : List Elem) → length es ≡ length (reads a) → body a es ≡ other a es
  by_inputs a lt es long = by_root (least_root es) refl
    where
      by_root : (root : Option ℕ) → least_root es ≡ root → option_map_or (λ (r : ℕ). outcome_of (Poisoned r) []) root (one a (values_of es)) ≡ option_map_or (λ (r : ℕ). outcome_of (Poisoned r) []) root (another a (values_of es))
      by_root None is = agree a (values_of es) lt (length-values es is ∙ long)
      by_root (Some r) is = refl

  -- the same inputs, if they are there, give the same
  given : (s : State) (a : ℕ) → a < count → (o : Option (List Elem)) → inputs_in stream_element reads s a ≡ o → option_map (body a) o ≡ option_map (other a) o
  given s a lt None is = refl
  given s a lt (Some inputs) is = ap (λ (o : Outcome). Some o) (by_inputs a lt inputs (length-gathered (map (stream_element s) (reads a)) inputs is ∙ length-map (reads a) (stream_element s)))

  one_round : (s : State) → length s ≡ count → round stream_element reads body s ≡ round stream_element reads other s
  one_round s long = same_lists (round stream_element reads body s) (round stream_element reads other s) (length-round stream_element reads body s ∙ sym (length-round stream_element reads other s)) (λ k d lt. at k d (omega (arith, length-round stream_element reads body s)))
    where
      at : (k : ℕ) (d : Option Outcome) → k < length s → get_or (round stream_element reads body s) k d ≡ get_or (round stream_element reads other s) k d
      at k d lt =
          get_or_default (round stream_element reads body s) k d None (omega (arith, length-round stream_element reads body s))
          ∙ outcome_at-round stream_element reads body s k lt
          ∙ ap (option_or (outcome_at s k)) (given s k (omega arith) (inputs_in stream_element reads s k) refl)
          ∙ sym (outcome_at-round stream_element reads other s k lt)
          ∙ get_or_default (round stream_element reads other s) k None d (omega (arith, length-round stream_element reads other s))

  some_rounds : (n : ℕ) → after stream_element reads body count n ≡ after stream_element reads other count n
  unfolding rounds
  some_rounds zero = refl
  some_rounds (suc n) =
      one_round (after stream_element reads body count n) (length-after stream_element reads body count n) ∙ ap (round stream_element reads other) (some_rounds n)

  pub same_meaning : meaning stream_element reads body count ≡ meaning stream_element reads other count
  unfolding meaning
  same_meaning = some_rounds count

pub mean_one : (activations : List Activation) (input : List ℕ) (body other : ℕ → List ℤ → Outcome) → Agree activations body other
    → stream_meaning activations input body ≡ stream_meaning activations input other
mean_one activations input body other agree =
    same_meaning (stream_reads activations input) body other (length activations) (λ a inputs lt long.
    let is = slice_get-get_or activations a no_activation lt in
    agree a (get_or activations a no_activation) inputs is (long ∙ length-reads activations input a (get_or activations a no_activation) is))

-- the bodies of more activations make the same of the inputs of the first ones
pub more_agree : (code : Parts) (activations more : List Activation) (budget : ℕ)
    → Agree activations (frame_outcome code activations budget) (frame_outcome code (activations ++ more) budget)
more_agree code activations more budget a x inputs at long =
    ap (λ o. option_map_or (λ (y : Activation). code_outcome code y inputs budget) o over_budget)
    (sym (slice_get-append_left activations more a (slice_get_within activations a x at)))
