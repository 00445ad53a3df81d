-- Runs apart from the activations before them: what is known of those from a number on, whether or not the ones before have ended.
use Rattle.std.specs.Prelude.{◌≡◌, ℕ, ◌<◌, ◌≤◌, List, [], Option, IsSome, All, drop, length, slice_index, slice_index_or, take}
use Rattle.flow_core_laws.specs.declared.activation.Activation.{Activation}
use Rattle.flow_core_laws.specs.declared.elem.Elem.{Elem}
use Rattle.flow_core_laws.specs.Outcome.{State}
use Rattle.flow_core_laws.specs.Place.{written_count}
use Rattle.epoch_run_in_order_laws.specs.InOrder.{elements_on}

-- All activations from a number on have an outcome in a state.
abbrev pub HaveEndedFrom : ℕ → State → Type 0
HaveEndedFrom from state = All IsSome (drop from state)

-- Lists, one a stream, hold what the activations from a number on wrote to the streams, in a state: each from the position on where the
-- first of them would write. All of it is there. The list of the input, which is stream 0, says nothing.
pub record HoldWritten (from : ℕ) (activations : List Activation) (input : List ℕ) (state : State) (elements : List (List (Option Elem)))
    (firsts : List ℕ) : Type 0 where
  pub as_many : length firsts ≡ length elements
  pub firsts_are : (stream : ℕ) → stream < length elements → slice_index firsts stream ≡ written_count (take from activations) stream
  pub are_theirs : (stream : ℕ) → 1 ≤ stream → stream < length elements
      → slice_index_or elements stream [] ≡ drop (slice_index firsts stream) (elements_on activations input state stream)
  pub are_there : (stream : ℕ) → 1 ≤ stream → stream < length elements → All IsSome (slice_index_or elements stream [])
