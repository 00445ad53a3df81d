-- The places of the elements that activations read, and of those that leave the run.
use Rattle.std.specs.Prelude.{ℕ, not, List, map, filter}
use Rattle.std.specs.List.{range_with_len, flat_map}
use Rattle.flow_core_laws.specs.declared.activation.Activation.{Activation}
use Rattle.flow_core_laws.specs.declared.place.Place.{Place}
use Rattle.flow_core_laws.specs.FirstPosition.{write_cursor}
use Rattle.flow_core_laws.specs.Window.{Window, windows_of, claims_of}

-- The `count` places on a stream from position `first` on.
abbrev pub places_from : ℕ → ℕ → ℕ → List Place
places_from stream first count = map (λ position. record { stream = stream; position = position }) (range_with_len first count)

-- The places that a window covers, by position.
abbrev pub places_of : Window → List Place
places_of window = places_from window.claim.stream window.first window.claim.horizon

-- The input windows of an activation, in clause order.
abbrev pub input_windows : List Activation → ℕ → List Window
input_windows activations a = filter (λ (w : Window). not w.claim.write) (windows_of activations a)

-- The places of an activation's inputs: its input windows in clause order, each by position.
unfoldable pub input_places : List Activation → ℕ → List Place
input_places activations a = flat_map places_of (input_windows activations a)

-- How many positions of a stream are claimed for writing.
abbrev pub written_count : List Activation → ℕ → ℕ
written_count activations stream = write_cursor stream (claims_of activations)

-- The places of the output: the positions of stream 1 that are claimed for writing, from 0 on.
abbrev pub output_places : List Activation → List Place
output_places activations = places_from 1 0 (written_count activations 1)
