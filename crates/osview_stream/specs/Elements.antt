-- The lines of a stream's elements.
use Rattle.std.specs.Prelude.{ℕ, ◌-◌, ◌==◌, min, if◌then◌else◌, List, [], ◌++◌, Option, None, Some, codes, length, slice_index_or}
use Rattle.std.specs.Fmt.{decimal, signed_decimal}
use Rattle.std.specs.List.{flat_map, range_with_len}
use Rattle.std.specs.Option.{option_map, option_map_or}
use Rattle.os_io.specs.Lines.{ended_line}
use Rattle.flow_core_laws.specs.Outcome.{State}
use Rattle.flow_core_laws.specs.Place.{written_count}
use Rattle.flow_core_laws.specs.Streams.{stream_element, stream_source}
use Rattle.flow_core_laws.specs.Window.{Window, producer}
use Rattle.flow_core_laws.specs.declared.activation.Activation.{Activation}
use Rattle.flow_core_laws.specs.declared.elem.Elem.{Elem}
use Rattle.flow_core_laws.specs.declared.elem.Elem.TheVariants.{Poison, Value}

-- the element at a position of a stream in a state of the activations, if it is there
abbrev pub element_at : List Activation → (input : List ℕ) → State → (stream position : ℕ) → Option Elem
element_at activations input state stream position =
    stream_element state (stream_source activations input (record { stream = stream; position = position }))

-- the activation whose write claim covers a position, or none
abbrev pub writer_at : List Activation → (stream position : ℕ) → Option ℕ
writer_at activations stream position = option_map (λ (w : Window). w.activation) (producer activations stream position)

-- an element: its value, or poison with its root; or that it isn't there
abbrev pub element_text : Option Elem → List ℕ
element_text None = codes "none"
element_text (Some (Value value)) = signed_decimal value
element_text (Some (Poison root)) = codes "poison " ++ decimal root

-- an activation, with the line of its task
abbrev pub activation_text : (lines : List ℕ) → ℕ → List ℕ
activation_text lines a = codes " activation " ++ decimal a ++ codes " line " ++ decimal (slice_index_or lines a 0)

-- who writes at a position: the input, or an activation
abbrev pub writer_text : (lines : List ℕ) → (stream : ℕ) → Option ℕ → List ℕ
writer_text lines stream writer = if stream == 0 then codes " input" else option_map_or (activation_text lines) writer []

-- A position with its element and who writes there.
abbrev pub element_line : (lines : List ℕ) → List Activation → (input : List ℕ) → State → (stream position : ℕ) → List ℕ
element_line lines activations input state stream position =
    ended_line (decimal position ++ codes " " ++ element_text (element_at activations input state stream position)
    ++ writer_text lines stream (writer_at activations stream position))

-- how many positions of a stream there are to show: the bytes of the input, and what is claimed for writing of the others
abbrev pub position_count : List Activation → (input : List ℕ) → (stream : ℕ) → ℕ
position_count activations input stream = if stream == 0 then length input else written_count activations stream

-- The lines of a stream's positions from `first` on, at most `count`. `lines` has the line of each activation's task.
abbrev pub stream_lines : (lines : List ℕ) → List Activation → (input : List ℕ) → State → (stream first count : ℕ) → List ℕ
stream_lines lines activations input state stream first count =
    flat_map (element_line lines activations input state stream)
    (range_with_len first (min count (position_count activations input stream - first)))
