-- The laws of runs in control order, as statements.
use Rattle.std.specs.Prelude.{◌≡◌, ℕ, ℤ, ◌+◌, ◌-◌, ◌<◌, ◌≤◌, List, [], ◌∷◌, ◌++◌, Option, Some, IsSome, All}
use Rattle.std.specs.Prelude.{drop, map, length, min, slice_index, slice_index_or, take}
use Rattle.flow_core_laws.specs.declared.activation.Activation.{Activation}
use Rattle.flow_core_laws.specs.declared.claim.Claim.{Claim}
use Rattle.flow_core_laws.specs.declared.elem.Elem.{Elem}
use Rattle.flow_core_laws.specs.declared.outcome.Outcome.{Outcome}
use Rattle.flow_core_laws.specs.declared.task_end.TaskEnd.{TaskEnd}
use Rattle.flow_core_laws.specs.FirstPosition.{read_cursor}
use Rattle.flow_core_laws.specs.Outcome.{State, ends_of, outcome_at}
use Rattle.flow_core_laws.specs.Place.{places_from, written_count}
use Rattle.flow_core_laws.specs.Poisoning.{poisoning}
use Rattle.flow_core_laws.specs.Round.{gathered}
use Rattle.flow_core_laws.specs.Streams.{stream_meaning}
use Rattle.flow_core_laws.specs.Window.{claims_of, windows_of}
use Rattle.flow_core_epochs.specs.Epoch.{IsHeld, Kept, value_kept}
use Rattle.epoch_run_in_order_laws.specs.Apart.{HaveEndedFrom, HoldWritten}
use Rattle.epoch_run_in_order_laws.specs.InOrder.{HaveAllEnded, HoldElements, elements_on, kept_in, next_reads, written_to}

-- Where all activations so far have ended and what the next one reads is there, they mean the same with it, and it ends as what it
-- reads poisons it or its body makes of the values.
abbrev pub GoesOn : Type 0
GoesOn =
    (before : List Activation) (next : Activation) (input : List ℕ) (body : ℕ → List ℤ → Outcome) (elements : List Elem)
    → HaveAllEnded (stream_meaning before input body)
    → gathered (next_reads before next input (stream_meaning before input body)) ≡ Some elements
    → stream_meaning (before ++ next ∷ []) input body
    ≡ stream_meaning before input body ++ Some (poisoning body (length before) elements) ∷ []

-- With the outcome of the next activation each stream has its elements of before, and behind them what that one wrote to it.
abbrev pub ElementsGrow : Type 0
ElementsGrow =
    (before : List Activation) (next : Activation) (input : List ℕ) (state : State) (outcome : Outcome) (stream : ℕ)
    → 1 ≤ stream → length state ≡ length before
    → elements_on (before ++ next ∷ []) input (state ++ Some outcome ∷ []) stream
    ≡ elements_on before input state stream ++ written_to (length before) outcome (windows_of (before ++ next ∷ []) (length before)) stream

-- What a run in control order holds is held of its activations between two epochs.
abbrev pub IsHeldInOrder : Type 0
IsHeldInOrder =
    (activations : List Activation) (input : List ℕ) (body : ℕ → List ℤ → Outcome) (elements : List (List (Option Elem))) (firsts : List ℕ)
    → HaveAllEnded (stream_meaning activations input body)
    → HoldElements activations input (stream_meaning activations input body) elements firsts
    → All (λ (c : Claim). c.stream < length elements) (claims_of activations)
    → IsHeld activations input body (ends_of (stream_meaning activations input body)) (kept_in elements firsts) (slice_index_or elements 1 [])

-- What is held between two epochs is what a run in control order needs, where each declared stream holds what is kept of it from
-- its read cursor on, as far as it is claimed for writing.
abbrev pub RunsOnFromHeld : Type 0
RunsOnFromHeld =
    (activations : List Activation) (input : List ℕ) (body : ℕ → List ℤ → Outcome) (ends : List (Option TaskEnd)) (kept : List Kept)
    (output : List (Option Elem)) (elements : List (List (Option Elem))) (firsts : List ℕ)
    → IsHeld activations input body ends kept output
    → length firsts ≡ length elements → 2 ≤ length elements
    → slice_index_or elements 1 [] ≡ output → slice_index firsts 1 ≡ 0 → slice_index firsts 0 ≡ 0
    → ((stream : ℕ) → 2 ≤ stream → stream < length elements
    → slice_index firsts stream ≡ min (read_cursor stream (claims_of activations)) (written_count activations stream))
    → ((stream : ℕ) → 2 ≤ stream → stream < length elements
    → slice_index_or elements stream [] ≡ map (value_kept kept)
    (places_from stream (slice_index firsts stream) (written_count activations stream - slice_index firsts stream)))
    → HoldElements activations input (stream_meaning activations input body) elements firsts

-- Where all activations from a number on have ended and what the next one reads is there, these have the same outcomes with it, and it ends
-- as what it reads poisons it or its body makes of the values. Of those before the number nothing is asked.
abbrev pub GoesOnApart : Type 0
GoesOnApart =
    (from : ℕ) (before : List Activation) (next : Activation) (input : List ℕ) (body : ℕ → List ℤ → Outcome) (elements : List Elem)
    → from ≤ length before → HaveEndedFrom from (stream_meaning before input body)
    → gathered (next_reads before next input (stream_meaning before input body)) ≡ Some elements
    → drop from (stream_meaning (before ++ next ∷ []) input body)
    ≡ drop from (stream_meaning before input body) ++ Some (poisoning body (length before) elements) ∷ []

-- What they wrote is there as it was, and behind it what the next one writes.
abbrev pub WrittenGrow : Type 0
WrittenGrow =
    (from : ℕ) (before : List Activation) (next : Activation) (input : List ℕ) (body : ℕ → List ℤ → Outcome) (outcome : Outcome)
    (elements more : List (List (Option Elem))) (firsts : List ℕ)
    → from ≤ length before
    → outcome_at (stream_meaning (before ++ next ∷ []) input body) (length before) ≡ Some outcome
    → HoldWritten from before input (stream_meaning before input body) elements firsts
    → length more ≡ length elements
    → ((stream : ℕ) → 1 ≤ stream → stream < length elements → slice_index_or more stream []
    ≡ slice_index_or elements stream [] ++ written_to (length before) outcome (windows_of (before ++ next ∷ []) (length before)) stream)
    → ((stream : ℕ) → 1 ≤ stream → stream < length elements → All IsSome (slice_index_or more stream []))
    → HoldWritten from (before ++ next ∷ []) input (stream_meaning (before ++ next ∷ []) input body) more firsts

-- All activations so far have ended, the first ones as before, and the streams hold what all of them wrote.
pub record AreJoined (first_ones activations : List Activation) (input : List ℕ) (body : ℕ → List ℤ → Outcome)
    (joined : List (List (Option Elem))) (firsts : List ℕ) : Type 0 where
  pub have_ended : HaveAllEnded (stream_meaning activations input body)
  pub ends_are : ends_of (stream_meaning activations input body)
      ≡ ends_of (stream_meaning first_ones input body) ++ drop (length first_ones) (ends_of (stream_meaning activations input body))
  pub hold : HoldElements activations input (stream_meaning activations input body) joined firsts

-- Where the first ones of some activations have all ended, and those from a number among these on ran apart to the last one, all have ended:
-- each as the one or the other run says. What the streams hold of the first ones, and behind it what they hold beyond of the others, is what
-- they hold of all.
abbrev pub Join : Type 0
Join =
    (from : ℕ) (first_ones activations : List Activation) (input : List ℕ) (body : ℕ → List ℤ → Outcome)
    (elements written joined : List (List (Option Elem))) (firsts firsts_written : List ℕ)
    → first_ones ≡ take (length first_ones) activations → from ≤ length first_ones
    → HaveAllEnded (stream_meaning first_ones input body)
    → HoldElements first_ones input (stream_meaning first_ones input body) elements firsts
    → HaveEndedFrom from (stream_meaning activations input body)
    → HoldWritten from activations input (stream_meaning activations input body) written firsts_written
    → length written ≡ length elements → length joined ≡ length elements
    → ((stream : ℕ) → 1 ≤ stream → stream < length elements → slice_index_or joined stream []
    ≡ slice_index_or elements stream []
    ++ drop (slice_index firsts stream + length (slice_index_or elements stream []) - slice_index firsts_written stream) (slice_index_or written stream []))
    → AreJoined first_ones activations input body joined firsts
