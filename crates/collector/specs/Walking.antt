-- Going over spans and positions in search of what is missing.
use Rattle.std.specs.Prelude.{◌≡◌, ℕ, ◌+◌, ◌^◌, ◌<◌, ◌≤◌, Bool, not, true, false, List, [], Option, None, Some, find, length, if◌then◌else◌}
use Rattle.std.specs.List.{range_with_len}
use Rattle.flow_core_laws.specs.declared.activation.Activation.{Activation}
use Rattle.flow_core_laws.specs.declared.place.Place.{Place}
use Rattle.flow_core_laws.specs.declared.task_end.TaskEnd.{TaskEnd}
use Rattle.flow_core_laws.specs.Place.{places_from}
use Rattle.flow_core_laws.specs.There.{is_there}
use Rattle.stream_match_layouts.specs.declared.layout.Layout.{Layout}
use Rattle.stream_match_layouts.specs.declared.span.Span.{Span}
use Rattle.stream_match_layouts.specs.Spans.{read_count}

-- a span on a stream of a layout, and the end of what it reads fits its type
pub record IsSpanIn (layout : Layout) (span : Span) : Type 0 where
  pub stream_exists : span.stream < length layout.writers
  pub ends : span.first + read_count span < 2 ^ 63

-- whether the element at a place isn't there
abbrev pub is_missing : List Activation → ℕ → List (Option TaskEnd) → Place → Bool
is_missing activations input_len ends place = not (is_there activations input_len ends place)

-- whether the element at a position of a stream isn't there
abbrev pub is_gap : List Activation → ℕ → List (Option TaskEnd) → ℕ → ℕ → Bool
is_gap activations input_len ends stream position = is_missing activations input_len ends (record { stream = stream; position = position })

-- of the `count` positions of a stream from `first` on, the first one whose element isn't there
abbrev pub first_gap : List Activation → ℕ → List (Option TaskEnd) → ℕ → ℕ → ℕ → Option ℕ
first_gap activations input_len ends stream first count = find (is_gap activations input_len ends stream) (range_with_len first count)

-- the places that a span reads
abbrev pub read_places : Span → List Place
read_places span = if span.write then [] else places_from span.stream span.first span.count

-- From a position on up to another one all elements of a stream are there; or the one at the position isn't.
abbrev pub Reaches : List Activation → ℕ → List (Option TaskEnd) → ℕ → ℕ → Option ℕ → Type 0
Reaches activations input_len ends stream position None = is_gap activations input_len ends stream position ≡ true
Reaches activations input_len ends stream position (Some next) =
    (position < next) × ((p : ℕ) → position ≤ p → p < next → is_gap activations input_len ends stream p ≡ false)
