-- What outcomes have where each goes on where the one before it ends.
use Rattle.std.specs.Prelude.{◌≡◌, ℕ, ◌+◌, ◌<◌, ◌≤◌, List, [], Option, Some, IsSome, All, flat_map, length, map, slice_index, slice_index_or}
use Rattle.flow_core_laws.specs.declared.elem.Elem.{Elem}
use Rattle.flow_core_laws.specs.declared.task_end.TaskEnd.{TaskEnd}
use Rattle.stream_match_layouts.specs.declared.layout.Layout.{Layout}
use Rattle.epoch_run_batches.specs.Meant.{AreEndsMeant, AreMeant, HoldMeant, Run}
use Rattle.epoch_run_batches.specs.Outcome.{AreAllMeant}
use Rattle.epoch_run_batches.specs.declared.batch_outcome.BatchOutcome.{BatchOutcome}
use Rattle.epoch_run_batches.specs.declared.ended.Ended.{Ended}
use Rattle.epoch_run_stretch.specs.Ends.{AreEndsFrom}
use Rattle.epoch_run_stretch.specs.Gathered.{IsGathered, held_to}

-- the elements that an outcome has of a stream, and all outcomes together
abbrev pub part_of : BatchOutcome → (stream : ℕ) → List (Option Elem)
part_of outcome stream = slice_index_or outcome.wrote.elements stream []

abbrev pub elements_in : (stream : ℕ) → List BatchOutcome → List (Option Elem)
elements_in stream outcomes = flat_map (λ (outcome : BatchOutcome). part_of outcome stream) outcomes

-- the ends that a batch came to, and all outcomes together
abbrev pub ends_of_batch : List Ended → List (Option TaskEnd)
ends_of_batch ended = map (λ (e : Ended). Some e.end) ended

abbrev pub ends_in : List BatchOutcome → List (Option TaskEnd)
ends_in outcomes = flat_map (λ (outcome : BatchOutcome). ends_of_batch outcome.ended) outcomes

-- An outcome's elements of a stream are those from a position up to another, and all of them are there.
pub record GoOn (outcome : BatchOutcome) (stream position next : ℕ) : Type 0 where
  pub next_is : next ≡ position + length (part_of outcome stream)
  pub all : All IsSome (part_of outcome stream)
  pub meant : (run : Run) → HoldMeant run outcome.wrote → AreMeant run stream position (part_of outcome stream)

-- so of the elements of some outcomes
pub record HaveGoneOn (outcomes : List BatchOutcome) (some : List BatchOutcome) (stream from position : ℕ) : Type 0 where
  pub next_is : position ≡ from + length (elements_in stream some)
  pub all : All IsSome (elements_in stream some)
  pub meant : (run : Run) → AreAllMeant run outcomes → AreMeant run stream from (elements_in stream some)

-- of the first `count` streams but the input each has its elements consecutive from what is held of it up to its write cursor
abbrev pub AreConsecutive : (firsts : List ℕ) → List (List (Option Elem)) → Layout → List BatchOutcome → (count : ℕ) → Type 0
AreConsecutive firsts elements layout outcomes count = (stream : ℕ) → 1 ≤ stream → stream < count
    → IsGathered (held_to firsts elements stream) (slice_index layout.cursors.writes stream) outcomes stream (elements_in stream outcomes)

-- The activations that ended have the numbers from one up to another.
pub record GoOnEnds (ended : List Ended) (first next : ℕ) : Type 0 where
  pub next_is : next ≡ first + length ended
  pub meant : (run : Run) → AreEndsMeant run ended → AreEndsFrom run first (ends_of_batch ended)

-- so of the ends of some outcomes
pub record HaveGoneOnEnds (outcomes : List BatchOutcome) (some : List BatchOutcome) (first next : ℕ) : Type 0 where
  pub next_is : next ≡ first + length (ends_in some)
  pub all : All IsSome (ends_in some)
  pub meant : (run : Run) → AreAllMeant run outcomes → AreEndsFrom run first (ends_in some)

-- the ends of outcomes are those of the activations from a number up to another
pub record EndAllIn (outcomes : List BatchOutcome) (first count : ℕ) : Type 0 where
  pub up_to : first + length (ends_in outcomes) ≡ count
  pub all : All IsSome (ends_in outcomes)
  pub meant : (run : Run) → AreAllMeant run outcomes → AreEndsFrom run first (ends_in outcomes)
