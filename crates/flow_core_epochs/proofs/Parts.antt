-- Parts of a meaning: all of it is one, and one in which every activation has an outcome is all of it.
use Rattle.std.proofs.Common.{◌≡◌, ℕ, ◌<◌, ℤ, List, Option, Some, None, true, length, get_or, refl, sym, ap, ◌∙◌, subst, arith}
use Rattle.std.specs.Prelude.{is_some}
use Rattle.std.specs.Option.{option_map}
use Rattle.std.proofs.lemmas.List.{same_lists, get_or_default, length-map}
use Rattle.flow_core_laws.specs.declared.activation.Activation.{Activation}
use Rattle.flow_core_laws.specs.declared.elem.Elem.{Elem}
use Rattle.flow_core_laws.specs.declared.task_end.TaskEnd.{TaskEnd}
use Rattle.flow_core_laws.specs.declared.outcome.Outcome.{Outcome}
use Rattle.flow_core_laws.specs.Outcome.{outcome_at, State, ends_of, has_end_at}
use Rattle.flow_core_laws.specs.Poisoning.{poisoning}
use Rattle.flow_core_laws.specs.Streams.{stream_reads, stream_meaning, stream_element, output_elements}
use Rattle.flow_core_laws.proofs.Rounds.{length-meaning}
use Rattle.flow_core_epochs.specs.Epoch.{Kept, IsCarried, IsHeld, IsPartHeld, IsPartOf}
use Rattle.flow_core_epochs.proofs.Choosing.{end_in}

pub all_is_a_part : (activations : List Activation) (input : List ℕ) (body : ℕ → List ℤ → Outcome) (ends : List (Option TaskEnd)) (kept : List Kept) (output : List (Option Elem)) → IsHeld activations input body ends kept output → IsPartHeld activations input body (stream_meaning activations input body) ends kept output
all_is_a_part activations input body ends kept output held = record {
  state_is_part = record { agrees = λ a o h. h };
  ends_are_of_state = held.ends_are_meant;
  kept_is_carried = held.kept_is_carried;
  output_is_of_state = held.output_is_meant;
}

-- an activation with an end has an outcome
has_outcome : (state : State) (a : ℕ) → has_end_at (ends_of state) a ≡ true → (o : Outcome) × (outcome_at state a ≡ Some o)
has_outcome state a h = by_outcome (outcome_at state a) refl
  where
    by_outcome : (q : Option Outcome) → outcome_at state a ≡ q → (o : Outcome) × (outcome_at state a ≡ Some o)
    by_outcome (Some o) e = (o, e)
    by_outcome None e = let z : is_some (outcome_at (ends_of state) a) ≡ is_some (option_map (λ (o : Outcome). o.end) None) = ap is_some (end_in state a ∙ ap (option_map (λ (o : Outcome). o.end)) e) in absurd (cc)

pub ended_is_all : (activations : List Activation) (input : List ℕ) (body : ℕ → List ℤ → Outcome) (state : State) (ends : List (Option TaskEnd)) (kept : List Kept) (output : List (Option Elem)) → IsPartHeld activations input body state ends kept output → length ends ≡ length activations → ((a : ℕ) → a < length activations → has_end_at ends a ≡ true) → IsHeld activations input body ends kept output
ended_is_all activations input body state ends kept output held as_many ended = record {
  ends_are_meant = held.ends_are_of_state ∙ ap ends_of same;
  kept_is_carried = subst (λ (s : State). IsCarried activations input s kept) same held.kept_is_carried;
  output_is_meant = held.output_is_of_state ∙ ap (output_elements activations input) same;
}
  where
    whole : State
    whole = stream_meaning activations input body

    l : length whole ≡ length activations
    l = length-meaning stream_element (stream_reads activations input) (poisoning body) (length activations)

    m : length state ≡ length activations
    m = sym (length-map state (option_map (λ (o : Outcome). o.end))) ∙ sym (ap length held.ends_are_of_state) ∙ as_many

    at : (k : ℕ) (d : Option Outcome) → k < length state → get_or state k d ≡ get_or whole k d
    at k d lt =
        let (o, is) = has_outcome state k (ap (λ (es : List (Option TaskEnd)). has_end_at es k) (sym held.ends_are_of_state) ∙ ended k (omega (arith, m))) in
        get_or_default state k d None lt ∙ is ∙ sym (held.state_is_part.agrees k o is) ∙ get_or_default whole k None d (omega (arith, l, m))

    same : state ≡ whole
    same = same_lists state whole (m ∙ sym l) at
