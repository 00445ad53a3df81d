-- Tests of which elements an activation awaits, the ends by which they are searched for, and marks of a walk's members.
use Rattle.std.specs.Prelude.{◌≡◌, ℕ, ◌<◌, ◌⊎◌, ◌==◌, Bool, false, not, if◌then◌else◌, List, Option, None, Some, Contains, slice_index_or}
use Rattle.std.specs.List.{list_any}
use Rattle.std.specs.Option.{option_map_or}
use Rattle.flow_core_laws.specs.declared.activation.Activation.{Activation}
use Rattle.flow_core_laws.specs.declared.place.Place.{Place}
use Rattle.flow_core_laws.specs.declared.task_end.TaskEnd.{TaskEnd}
use Rattle.flow_core_laws.specs.Outcome.{has_end_at}
use Rattle.flow_core_laws.specs.Place.{input_places}
use Rattle.collector.specs.Missing.{producing}
use Rattle.stream_match_layouts.specs.declared.layout.Layout.{Layout}
use Rattle.stream_match_layouts.specs.Spans.{frame_count}
use Rattle.wait_certs_laws.specs.Chain.{activation, nobody, Awaits, last_of}

-- whether an activation should write the element at a place
abbrev pub is_produced_by : List Activation → ℕ → Place → Bool
is_produced_by activations writer place = option_map_or (λ (a : ℕ). a == writer) (producing activations place) false

-- whether an activation reads an element that another one should write
abbrev pub reads_from : List Activation → ℕ → ℕ → Bool
reads_from activations a writer = list_any (is_produced_by activations writer) (input_places activations a)

-- whether a list has a number
abbrev pub has_member : List ℕ → ℕ → Bool
has_member members a = list_any (λ x. a == x) members

-- by these ends all activations have one but the members of a list
abbrev pub AllEndedBut : Layout → List ℕ → List (Option TaskEnd) → Type 0
AllEndedBut layout members ends = (a : ℕ) → a < frame_count layout → has_end_at ends a ≡ not (has_member members a)

-- the last member awaits what nobody gives, or what a member should give
abbrev pub EndsInVain : List Activation → ℕ → List ℕ → Type 0
EndsInVain activations input_len chain = Awaits activations input_len (last_of chain) nobody
    ⊎ ((a : ℕ) × Contains chain a × Awaits activations input_len (last_of chain) (activation a))

-- an activation, as long as it isn't marked
abbrev pub unmarked : List Bool → ℕ → Option ℕ
unmarked marks a = if slice_index_or marks a false then None else Some a
