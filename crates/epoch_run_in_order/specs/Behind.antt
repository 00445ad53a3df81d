-- The streams behind activations that all have ended, from what is kept of these.
use Rattle.std.specs.Prelude.{◌≡◌, ℕ, ◌-◌, ◌<◌, ◌≤◌, nat_le, nat_lt, min, if◌then◌else◌, List, [], ◌∷◌, Option, None, Some, length, map, replicate}
use Rattle.std.specs.Prelude.{slice_index, slice_index_or, slice_set}
use Rattle.flow_core_epochs.specs.Epoch.{Kept, value_kept}
use Rattle.flow_core_laws.specs.Place.{places_from}
use Rattle.flow_core_laws.specs.declared.elem.Elem.{Elem}
use Rattle.stream_match_layouts.specs.declared.layout.Layout.{Layout}
use Rattle.epoch_run_in_order.specs.declared.streams.Streams.{Streams}

-- the position of the first element of a stream to be held
abbrev pub first_on : Layout → ℕ → ℕ
first_on layout stream = if nat_lt stream 2 then 0 else min (slice_index layout.cursors.reads stream) (slice_index layout.cursors.writes stream)

-- the elements of a declared stream from there on, where none is kept yet
abbrev pub blank_on : Layout → ℕ → List (Option Elem)
blank_on layout stream = replicate (slice_index layout.cursors.writes stream - first_on layout stream) None

-- the elements from a first position on, with that at a position put there
abbrev pub with_element : (first : ℕ) → List (Option Elem) → (position : ℕ) → Elem → List (Option Elem)
with_element first elements position value = if nat_le first position then slice_set elements (position - first) (Some value) else elements

-- the elements of streams with one that is kept of a declared stream
abbrev pub with_kept : (firsts : List ℕ) → List (List (Option Elem)) → Kept → List (List (Option Elem))
with_kept firsts elements k =
    if nat_lt k.place.stream 2 then elements
    else slice_set elements k.place.stream
    (with_element (slice_index firsts k.place.stream) (slice_index_or elements k.place.stream []) k.place.position k.value)

-- the elements of streams with all that is kept, of which the last one is put there first
abbrev pub with_all_kept : (firsts : List ℕ) → List (List (Option Elem)) → List Kept → List (List (Option Elem))
with_all_kept firsts elements [] = elements
with_all_kept firsts elements (k ∷ kept) = with_kept firsts (with_all_kept firsts elements kept) k

-- Streams hold what is kept of the declared ones from their read cursors on, as far as they are claimed for writing, and the output.
pub record AreBehind (layout : Layout) (output : List (Option Elem)) (kept : List Kept) (streams : Streams) : Type 0 where
  pub elements_as_many : length streams.elements ≡ length layout.writers
  pub firsts_as_many : length streams.firsts ≡ length layout.writers
  pub output_is : slice_index_or streams.elements 1 [] ≡ output
  pub input_from_0 : slice_index streams.firsts 0 ≡ 0
  pub output_from_0 : slice_index streams.firsts 1 ≡ 0
  pub firsts_are : (stream : ℕ) → 2 ≤ stream → stream < length streams.elements
      → slice_index streams.firsts stream ≡ min (slice_index layout.cursors.reads stream) (slice_index layout.cursors.writes stream)
  pub elements_are : (stream : ℕ) → 2 ≤ stream → stream < length streams.elements
      → slice_index_or streams.elements stream []
      ≡ map (value_kept kept)
      (places_from stream (slice_index streams.firsts stream) (slice_index layout.cursors.writes stream - slice_index streams.firsts stream))
