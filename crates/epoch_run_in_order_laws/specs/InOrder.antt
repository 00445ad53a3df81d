-- Runs in control order: what streams hold where all activations so far have ended.
use Rattle.std.specs.Prelude.{◌≡◌, ℕ, ◌-◌, ◌<◌, ◌≤◌, List, [], ◌∷◌, ◌++◌, Option, IsSome, All, map, filter, drop, length, slice_index, slice_index_or}
use Rattle.std.specs.List.{range_with_len, flat_map}
use Rattle.flow_core_laws.specs.declared.activation.Activation.{Activation}
use Rattle.flow_core_laws.specs.declared.elem.Elem.{Elem}
use Rattle.flow_core_laws.specs.declared.outcome.Outcome.{Outcome}
use Rattle.flow_core_laws.specs.declared.place.Place.{Place}
use Rattle.flow_core_laws.specs.Element.{element_written}
use Rattle.flow_core_laws.specs.FirstPosition.{is_write_to, read_cursor}
use Rattle.flow_core_laws.specs.Outcome.{State}
use Rattle.flow_core_laws.specs.Place.{input_places, places_from, written_count}
use Rattle.flow_core_laws.specs.Streams.{stream_element, stream_source}
use Rattle.flow_core_laws.specs.Window.{Window, claims_of}
use Rattle.flow_core_epochs.specs.Epoch.{Kept, elements_at}

-- All activations have an outcome in a state.
abbrev pub HaveAllEnded : State → Type 0
HaveAllEnded state = All IsSome state

-- The elements of a stream in a state, from position 0 on: as many as are claimed for writing.
abbrev pub elements_on : List Activation → List ℕ → State → ℕ → List (Option Elem)
elements_on activations input state stream =
    map (λ (p : Place). stream_element state (stream_source activations input p)) (places_from stream 0 (written_count activations stream))

-- What the next activation reads, place by place, of what is there without it.
abbrev pub next_reads : List Activation → Activation → List ℕ → State → List (Option Elem)
next_reads before next input state =
    map (λ (p : Place). stream_element state (stream_source before input p)) (input_places (before ++ next ∷ []) (length before))

-- What an activation with a number and an outcome wrote in a window, by position.
abbrev pub written_in : ℕ → Outcome → Window → List (Option Elem)
written_in number outcome w = map (element_written number outcome) (range_with_len w.offset w.claim.horizon)

-- What it wrote to a stream, window by window.
abbrev pub written_to : ℕ → Outcome → List Window → ℕ → List (Option Elem)
written_to number outcome windows stream =
    flat_map (written_in number outcome) (filter (λ (w : Window). is_write_to stream w.claim) windows)

-- Lists of as many streams as there are of them hold the elements in a state, each from a position on; where all activations have ended, what
-- they lack nobody reads any more. The output is held whole. The list of the input, which is stream 0, says nothing.
pub record HoldElements (activations : List Activation) (input : List ℕ) (state : State) (elements : List (List (Option Elem))) (firsts : List ℕ) : Type 0 where
  pub as_many : length firsts ≡ length elements
  pub has_output : 2 ≤ length elements
  pub are_theirs : (stream : ℕ) → 1 ≤ stream → stream < length elements
      → slice_index_or elements stream [] ≡ drop (slice_index firsts stream) (elements_on activations input state stream)
  pub are_claimed : (stream : ℕ) → stream < length elements → slice_index firsts stream ≤ written_count activations stream
  pub are_read_no_more : (stream : ℕ) → stream < length elements → slice_index firsts stream ≤ read_cursor stream (claims_of activations)
  pub output_is_whole : slice_index firsts 1 ≡ 0

-- The elements of a stream from a position on, each with its place, those that are there.
abbrev pub kept_on : (stream first : ℕ) → List (Option Elem) → List Kept
kept_on stream first elements = elements_at (places_from stream first (length elements)) elements

-- What is kept of all declared streams, by stream.
abbrev pub kept_in : List (List (Option Elem)) → (firsts : List ℕ) → List Kept
kept_in elements firsts =
    flat_map (λ stream. kept_on stream (slice_index firsts stream) (slice_index_or elements stream [])) (range_with_len 2 (length elements - 2))
