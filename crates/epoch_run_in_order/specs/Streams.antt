-- The elements that streams hold.
use Rattle.std.specs.Prelude.{◌≡◌, ℕ, pos, ◌+◌, ◌-◌, ◌==◌, ◌≤◌, nat_le, if◌then◌else◌, List, [], Option, Some, None}
use Rattle.std.specs.Prelude.{length, slice_get, slice_index, slice_index_or}
use Rattle.std.specs.Option.{option_map}
use Rattle.flow_core_laws.specs.declared.elem.Elem.{Elem}
use Rattle.flow_core_laws.specs.declared.elem.Elem.TheVariants.{Value}
use Rattle.stream_match_layouts.specs.declared.span.Span.{Span}
use Rattle.epoch_run_in_order.specs.declared.streams.Streams.{Streams}

-- the elements of a stream that are held, and the position of the first of them
abbrev pub elements_of : Streams → ℕ → List (Option Elem)
elements_of streams stream = slice_index_or streams.elements stream []

abbrev pub first_of : Streams → ℕ → ℕ
first_of streams stream = slice_index streams.firsts stream

-- the element of the input at a position
abbrev pub byte_element : ℕ → Option Elem
byte_element byte = Some (Value (pos byte))

abbrev pub input_at : List ℕ → ℕ → Option Elem
input_at input position = option_map (λ byte. Value (pos byte)) (slice_get input position)

-- the element at a position of another stream, if it is held
abbrev pub held_on : Streams → (stream position : ℕ) → Option Elem
held_on streams stream position =
    if nat_le (first_of streams stream) position then slice_index_or (elements_of streams stream) (position - first_of streams stream) None else None

-- the element at a position of a stream
abbrev pub held_at : Streams → List ℕ → (stream position : ℕ) → Option Elem
held_at streams input stream position = if stream == 0 then input_at input position else held_on streams stream position

-- the elements that a span covers begin at a place among those of its stream, and all of them are held
pub record HasPlace (streams : Streams) (span : Span) (at : ℕ) : Type 0 where
  pub from : first_of streams span.stream + at ≡ span.first
  pub within : at + span.count ≤ length (elements_of streams span.stream)
