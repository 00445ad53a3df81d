-- What is gathered of the outcomes of batches.
use Rattle.std.specs.Prelude.{◌≡◌, ℕ, ℤ, ◌+◌, ◌-◌, ◌<◌, ◌≤◌, List, [], ◌++◌, Option, IsSome, All, length, slice_index, slice_index_or}
use Rattle.flow_core_laws.specs.declared.activation.Activation.{Activation}
use Rattle.flow_core_laws.specs.declared.elem.Elem.{Elem}
use Rattle.flow_core_laws.specs.declared.outcome.Outcome.{Outcome}
use Rattle.flow_core_laws.specs.declared.task_end.TaskEnd.{TaskEnd}
use Rattle.flow_core_laws.specs.Outcome.{ends_of}
use Rattle.flow_core_laws.specs.Streams.{stream_meaning}
use Rattle.stream_match_layouts.specs.declared.layout.Layout.{Layout}
use Rattle.epoch_run_batches.specs.Meant.{AreMeant, Run}
use Rattle.epoch_run_batches.specs.Outcome.{AreAllMeant}
use Rattle.epoch_run_batches.specs.declared.batch_outcome.BatchOutcome.{BatchOutcome}
use Rattle.epoch_run_in_order_laws.specs.InOrder.{HaveAllEnded, HoldElements}

-- All of these activations have ended: their ends are held, and what they wrote to the streams.
pub record HoldAll (activations : List Activation) (input : List ℕ) (body : ℕ → List ℤ → Outcome) (ends : List (Option TaskEnd))
    (elements : List (List (Option Elem))) (firsts : List ℕ) : Type 0 where
  pub ends_are : ends ≡ ends_of (stream_meaning activations input body)
  pub have_ended : HaveAllEnded (stream_meaning activations input body)
  pub hold : HoldElements activations input (stream_meaning activations input body) elements firsts

-- the position of a stream after all that is held of it
abbrev pub held_to : (firsts : List ℕ) → List (List (Option Elem)) → ℕ → ℕ
held_to firsts elements stream = slice_index firsts stream + length (slice_index_or elements stream [])

-- all elements of a stream were gathered from there up to its write cursor
pub record IsGathered (from to : ℕ) (outcomes : List BatchOutcome) (stream : ℕ) (part : List (Option Elem)) : Type 0 where
  pub count : length part ≡ to - from
  pub all : All IsSome part
  pub meant : (run : Run) → AreAllMeant run outcomes → AreMeant run stream from part

-- so of the first `count` streams but the input
pub record AreGathered (firsts : List ℕ) (elements : List (List (Option Elem))) (layout : Layout) (outcomes : List BatchOutcome) (count : ℕ)
    (parts : List (List (Option Elem))) : Type 0 where
  pub as_many : length parts ≡ count
  pub each : (stream : ℕ) → 1 ≤ stream → stream < count
      → IsGathered (held_to firsts elements stream) (slice_index layout.cursors.writes stream) outcomes stream (slice_index_or parts stream [])

-- of the streams before a number but the input each has a part more after its elements, and the others have the same
pub record HaveMore (count : ℕ) (part : (stream : ℕ) → List (Option Elem)) (before after : List (List (Option Elem))) : Type 0 where
  pub as_many : length after ≡ length before
  pub more : (stream : ℕ) → 1 ≤ stream → stream < count → stream < length before
      → slice_index_or after stream [] ≡ slice_index_or before stream [] ++ part stream
  pub same : (stream : ℕ) → count ≤ stream → slice_index_or after stream [] ≡ slice_index_or before stream []

-- the list of the input is empty, and the others are the same
pub record IsCleared (before after : List (List (Option Elem))) : Type 0 where
  pub as_many : length after ≡ length before
  pub input : slice_index_or after 0 [] ≡ []
  pub others : (stream : ℕ) → 1 ≤ stream → slice_index_or after stream [] ≡ slice_index_or before stream []
