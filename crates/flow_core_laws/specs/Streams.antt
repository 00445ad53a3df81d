-- The meaning of a list of activations over streams. Stream 0 is the input, stream 1 the output.
use Rattle.std.specs.Prelude.{ℕ, ℤ, pos, ◌+◌, ◌-◌, ◌==◌, if◌then◌else◌, List, Option, map, length, slice_get, filter, sum_by}
use Rattle.std.specs.Option.{option_map_or}
use Rattle.flow_core_laws.specs.declared.activation.Activation.{Activation}
use Rattle.flow_core_laws.specs.Window.{Window, producer}
use Rattle.flow_core_laws.specs.Place.{input_places, output_places}
use Rattle.flow_core_laws.specs.Round.{meaning}
use Rattle.flow_core_laws.specs.declared.elem.Elem.{Elem}
use Rattle.flow_core_laws.specs.declared.elem.Elem.TheVariants.{Value}
use Rattle.flow_core_laws.specs.declared.ends.Ends.{Ends}
use Rattle.flow_core_laws.specs.declared.outcome.Outcome.{Outcome}
use Rattle.flow_core_laws.specs.Outcome.{State, ends_of}
use Rattle.flow_core_laws.specs.Element.{Source, initial, fed, nobody, element}
use Rattle.flow_core_laws.specs.Poisoning.{poisoning}
use Rattle.flow_core_laws.specs.declared.claim.Claim.{Claim}
use Rattle.flow_core_laws.specs.declared.place.Place.{Place}

-- How many output elements an activation has: the sum of its write claims' horizons.
abbrev pub output_count : Activation → ℕ
output_count activation = sum_by (λ (c : Claim). c.horizon) (filter (λ (c : Claim). c.write) activation.claims)

-- The source of an element of the input: its byte, where the position is below the length.
abbrev pub input_source : List ℕ → ℕ → Source
input_source input position = option_map_or (λ byte. initial (Value (pos byte))) (slice_get input position) nobody

-- The source of an element of another stream: the output element of its producer, if it has one.
abbrev pub produced_source : List Activation → ℕ → ℕ → Source
produced_source activations stream position =
    option_map_or (λ (w : Window). fed w.activation (w.offset + (position - w.first))) (producer activations stream position) nobody

-- The source of the element at a place.
abbrev pub stream_source : List Activation → List ℕ → Place → Source
stream_source activations input place = if place.stream == 0 then input_source input place.position else produced_source activations place.stream place.position

-- The sources of an activation's inputs, place by place.
abbrev pub stream_reads : List Activation → List ℕ → ℕ → List Source
stream_reads activations input activation = map (stream_source activations input) (input_places activations activation)

-- Over streams an activation's number is its place in the list, from 0 on.
abbrev pub own_number : ℕ → ℕ
own_number activation = activation

-- The element of a source over streams in a state, if it is there.
abbrev pub stream_element : State → Source → Option Elem
stream_element state source = element own_number state source

-- The data-flow meaning of a list of activations over an input: each activation's outcome, or none
-- where it is starved. `body` says by number what each activation makes of the values of its inputs.
abbrev pub stream_meaning : List Activation → List ℕ → (ℕ → List ℤ → Outcome) → State
stream_meaning activations input body = meaning stream_element (stream_reads activations input) (poisoning body) (length activations)

-- The elements of the output in a state, place by place, each where it is there.
abbrev pub output_elements : List Activation → List ℕ → State → List (Option Elem)
output_elements activations input state = map (stream_element state) (map (stream_source activations input) (output_places activations))

-- What a state of the streams comes to: the ends of the activations, and the elements of the output.
abbrev pub stream_ends : List Activation → List ℕ → State → Ends
stream_ends activations input state = record { ends = ends_of state; output = output_elements activations input state }

-- What activations come to over an input: their data-flow meaning, with these bodies.
abbrev pub meant_ends : List Activation → List ℕ → (ℕ → List ℤ → Outcome) → Ends
meant_ends activations input body = stream_ends activations input (stream_meaning activations input body)
