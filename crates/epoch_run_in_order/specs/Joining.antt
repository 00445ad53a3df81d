-- Putting what streams hold of later activations behind what others hold of the first ones.
use Rattle.std.specs.Prelude.{◌≡◌, ℕ, ◌+◌, ◌-◌, ◌<◌, ◌≤◌, List, [], ◌++◌, Option, drop, length, slice_index, slice_index_or, slice_set, if◌then◌else◌, nat_lt}
use Rattle.flow_core_laws.specs.declared.elem.Elem.{Elem}
use Rattle.epoch_run_in_order.specs.Streams.{elements_of, first_of}
use Rattle.epoch_run_in_order.specs.declared.streams.Streams.{Streams}

-- the elements of a stream, and behind them those that other streams hold there beyond them
abbrev pub joined_on : Streams → Streams → ℕ → List (Option Elem)
joined_on streams others stream =
    elements_of streams stream ++ drop (first_of streams stream + length (elements_of streams stream) - first_of others stream) (elements_of others stream)

-- streams with one of them joined so, where the others have it
abbrev pub with_joined : Streams → Streams → ℕ → Streams
with_joined streams others stream =
    if nat_lt stream (length others.elements)
    then record { elements = slice_set streams.elements stream (joined_on streams others stream); firsts = streams.firsts }
    else streams

-- the streams of two runs are joined: all but the input, each by what both hold of it
pub record AreJoinedTo (streams others joined : Streams) : Type 0 where
  pub as_many : length joined.elements ≡ length streams.elements
  pub firsts : joined.firsts ≡ streams.firsts
  pub are_joined : (stream : ℕ) → 1 ≤ stream → stream < length streams.elements → stream < length others.elements
      → elements_of joined stream ≡ joined_on streams others stream
