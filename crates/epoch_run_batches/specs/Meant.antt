-- What is meant of a run: ends of activations, and elements of streams.
use Rattle.std.specs.Prelude.{◌≡◌, ℕ, ℤ, ◌+◌, List, [], Option, Some, None, slice_get, slice_index, slice_index_or}
use Rattle.std.specs.Option.{option_map}
use Rattle.flow_core_laws.specs.declared.activation.Activation.{Activation}
use Rattle.flow_core_laws.specs.declared.elem.Elem.{Elem}
use Rattle.flow_core_laws.specs.declared.outcome.Outcome.{Outcome}
use Rattle.flow_core_laws.specs.declared.task_end.TaskEnd.{TaskEnd}
use Rattle.flow_core_laws.specs.Outcome.{State, outcome_at}
use Rattle.flow_core_laws.specs.Streams.{stream_element, stream_meaning, stream_source}
use Rattle.epoch_run_batches.specs.declared.streams.Streams.{Streams}
use Rattle.epoch_run_batches.specs.declared.ended.Ended.{Ended}

-- A run: activations over an input, with what the body of each makes of the values of its inputs.
pub record Run : Type 0 where
  pub activations : List Activation
  pub input : List ℕ
  pub body : ℕ → List ℤ → Outcome

-- What it means, by activation.
abbrev pub meant : Run → State
meant run = stream_meaning run.activations run.input run.body

-- The end that an activation means, and the element that a position of a stream means, if there is one.
abbrev pub end_meant : Run → (number : ℕ) → Option TaskEnd
end_meant run number = option_map (λ (o : Outcome). o.end) (outcome_at (meant run) number)

abbrev pub element_meant : Run → (stream position : ℕ) → Option Elem
element_meant run stream position =
    stream_element (meant run) (stream_source run.activations run.input (record { stream = stream; position = position }))

-- An activation ended as it means to.
abbrev pub IsEndMeant : Run → Ended → Type 0
IsEndMeant run e = end_meant run e.number ≡ Some e.end

-- Each of these activations ended as it means to.
abbrev pub AreEndsMeant : Run → List Ended → Type 0
AreEndsMeant run ended = (k : ℕ) (e : Ended) → slice_get ended k ≡ Some e → IsEndMeant run e

-- Of the elements of a stream from a position on each that is there is what it means.
abbrev pub AreMeant : Run → (stream first : ℕ) → List (Option Elem) → Type 0
AreMeant run stream first elements = (k : ℕ) (e : Elem) → slice_index_or elements k None ≡ Some e → element_meant run stream (first + k) ≡ Some e

-- All that streams hold is meant.
abbrev pub HoldMeant : Run → Streams → Type 0
HoldMeant run streams =
    (stream : ℕ) → AreMeant run stream (slice_index streams.firsts stream) (slice_index_or streams.elements stream [])
