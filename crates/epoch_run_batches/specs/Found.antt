-- What is found of streams.
use Rattle.std.specs.Prelude.{◌≡◌, ℕ, ◌+◌, ◌-◌, ◌≤◌, nat_le, if◌then◌else◌, List, [], Option, None, map, take, drop, length, slice_index, slice_index_or}
use Rattle.std.specs.List.{range_with_len}
use Rattle.flow_core_laws.specs.declared.elem.Elem.{Elem}
use Rattle.stream_match_layouts.specs.declared.span.Span.{Span}
use Rattle.epoch_run_batches.specs.declared.streams.Streams.{Streams}

-- the element that streams hold at a position, if it is there
abbrev pub held_on : Streams → (stream position : ℕ) → Option Elem
held_on streams stream position =
    if nat_le (slice_index streams.firsts stream) position
    then slice_index_or (slice_index_or streams.elements stream []) (position - slice_index streams.firsts stream) None
    else None

-- the elements that they hold at the positions that a span covers
abbrev pub held_over : Streams → Span → List (Option Elem)
held_over streams span = map (held_on streams span.stream) (range_with_len span.first span.count)

-- these are the elements at some places of a list, which has all these places
pub record AreAt (elements : List (Option Elem)) (place count : ℕ) (are : List (Option Elem)) : Type 0 where
  pub within : place + count ≤ length elements
  pub are_theirs : are ≡ take count (drop place elements)
