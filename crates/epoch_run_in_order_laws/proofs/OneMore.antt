-- That one more activation ends by what is there without it, and changes no outcome.
use Rattle.std.proofs.Common.{◌≡◌, ℕ, ◌+◌, ◌-◌, ◌<◌, ◌≤◌, ℤ, List, [], ◌∷◌, ◌++◌, Option, Some, None, length, get_or, IsSome, refl, sym, ap, ◌∙◌, ◌⊎◌, inl, inr, arith}
use Rattle.std.specs.Option.{option_map}
use Rattle.std.proofs.lemmas.Bool.{cases_lt}
use Rattle.std.proofs.lemmas.List.{same_lists, get_or_default, get_or_append_left, get_or-append_right, length-append}
use mathlib.Core.List.{map-map}
use Rattle.flow_core_laws.specs.declared.activation.Activation.{Activation}
use Rattle.flow_core_laws.specs.declared.elem.Elem.{Elem}
use Rattle.flow_core_laws.specs.declared.outcome.Outcome.{Outcome}
use Rattle.flow_core_laws.specs.declared.place.Place.{Place}
use Rattle.flow_core_laws.specs.Outcome.{State, outcome_at}
use Rattle.flow_core_laws.specs.Place.{input_places}
use Rattle.flow_core_laws.specs.Poisoning.{poisoning}
use Rattle.flow_core_laws.specs.Round.{gathered, inputs_in}
use Rattle.flow_core_laws.specs.Streams.{stream_source, stream_reads, stream_element, stream_meaning, own_number}
use Rattle.flow_core_laws.proofs.Elements.{element_kept}
use Rattle.flow_core_laws.proofs.Gathering.{gathered-weaker}
use Rattle.flow_core_laws.proofs.Rounds.{Extends, outcome_at-meaning, length-meaning}
use Rattle.flow_core_epochs.proofs.Prefixes.{element_more, prefix_extends}
use Rattle.epoch_run_in_order_laws.specs.InOrder.{HaveAllEnded, next_reads}
use Rattle.epoch_run_in_order_laws.specs.Laws.{GoesOn}

module _ (before : List Activation) (next : Activation) (input : List ℕ) (body : ℕ → List ℤ → Outcome) where
  abbrev acts : List Activation
  acts = before ++ next ∷ []

  abbrev earlier : State
  earlier = stream_meaning before input body

  abbrev whole : State
  whole = stream_meaning (before ++ next ∷ []) input body

  pub earlier_extends : Extends earlier whole
  earlier_extends = prefix_extends before (next ∷ []) input body

  pub length_earlier : length earlier ≡ length before
  length_earlier = length-meaning stream_element (stream_reads before input) (poisoning body) (length before)

  length_acts : length acts ≡ length before + 1
  length_acts = length-append before (next ∷ [])

  pub length_whole : length whole ≡ length before + 1
  length_whole = length-meaning stream_element (stream_reads acts input) (poisoning body) (length acts) ∙ length_acts

  -- what the next activation reads is there with it too
  reads_are_there : (elements : List Elem) → gathered (next_reads before next input earlier) ≡ Some elements → inputs_in stream_element (stream_reads acts input) whole (length before) ≡ Some elements
  reads_are_there elements h =
      ap gathered (map-map (stream_element whole) (stream_source acts input) (input_places acts (length before)))
      ∙ gathered-weaker (λ (p : Place). stream_element earlier (stream_source before input p)) (λ (p : Place). stream_element whole (stream_source acts input p)) (λ p v at. element_more before (next ∷ []) input whole p v (element_kept own_number earlier whole earlier_extends.kept (stream_source before input p) v at)) (input_places acts (length before)) elements h

  -- its outcome
  pub next_ends : (elements : List Elem) → gathered (next_reads before next input earlier) ≡ Some elements → outcome_at whole (length before) ≡ Some (poisoning body (length before) elements)
  next_ends elements h =
      outcome_at-meaning stream_element (element_kept own_number) (stream_reads acts input) (poisoning body) (length acts) (length before) (omega (arith, length_acts)) ∙ ap (option_map (poisoning body (length before))) (reads_are_there elements h)

  -- the outcomes before it
  others_stay : HaveAllEnded earlier → (a : ℕ) → a < length before → outcome_at whole a ≡ outcome_at earlier a
  others_stay ended a lt = by_outcome (outcome_at earlier a) refl (ended a None (omega (arith, length_earlier)))
    where
      by_outcome : (o : Option Outcome) → outcome_at earlier a ≡ o → IsSome (outcome_at earlier a) → outcome_at whole a ≡ outcome_at earlier a
      by_outcome None e some = absurd (cc)
      by_outcome (Some o) e some = earlier_extends.kept a o e ∙ sym e

pub goes_on : GoesOn
goes_on before next input body elements ended there = same_lists (whole before next input body) (earlier before next input body ++ last ∷ []) (length_whole before next input body ∙ sym len) at
  where
    last : Option Outcome
    last = Some (poisoning body (length before) elements)

    len : length (stream_meaning before input body ++ last ∷ []) ≡ length before + 1
    len = length-append (stream_meaning before input body) (last ∷ []) ∙ ap (λ n. n + 1) (length_earlier before next input body)

    at : (k : ℕ) (d : Option Outcome) → k < length (stream_meaning (before ++ next ∷ []) input body) → get_or (stream_meaning (before ++ next ∷ []) input body) k d ≡ get_or (stream_meaning before input body ++ last ∷ []) k d
    at k d lt = by_order (cases_lt k (length before))
      where
        by_order : (k < length before) ⊎ (length before ≤ k) → get_or (stream_meaning (before ++ next ∷ []) input body) k d ≡ get_or (stream_meaning before input body ++ last ∷ []) k d
        by_order (inl less) =
            let there_before : k < length (stream_meaning before input body) = omega (arith, length_earlier before next input body) in
            get_or_default (stream_meaning (before ++ next ∷ []) input body) k d None lt
            ∙ others_stay before next input body ended k less
            ∙ get_or_default (stream_meaning before input body) k None d there_before
            ∙ sym (get_or_append_left (stream_meaning before input body) (last ∷ []) d k there_before)
        by_order (inr more) =
            let e : k ≡ length before = omega (arith, length_whole before next input body) in
            let z : k - length before ≡ 0 = omega arith in
            get_or_default (stream_meaning (before ++ next ∷ []) input body) k d None lt
            ∙ ap (outcome_at (stream_meaning (before ++ next ∷ []) input body)) e
            ∙ next_ends before next input body elements there
            ∙ sym (get_or-append_right (stream_meaning before input body) (last ∷ []) (length before) k d (length_earlier before next input body) more ∙ ap (λ n. get_or (last ∷ []) n d) z)
