-- What is carried over by the cursors of the streams.
use Rattle.std.specs.Prelude.{ℕ, ◌-◌, Bool, ◌&&◌, nat_le, nat_lt, min, if◌then◌else◌, List, ◌++◌, Option, filter, slice_index}
use Rattle.flow_core_laws.specs.declared.elem.Elem.{Elem}
use Rattle.flow_core_laws.specs.declared.place.Place.{Place}
use Rattle.flow_core_epochs.specs.Epoch as epoch
use Rattle.stream_match.specs.declared.stretch.Stretch.{Stretch}

-- whether an element is of a declared stream, and at its cursor or behind
abbrev pub is_behind : List ℕ → epoch.Kept → Bool
is_behind cursors k = nat_le 2 k.place.stream && nat_le (slice_index cursors k.place.stream) k.place.position

-- what is carried over by cursors
abbrev pub carried_by : List ℕ → List epoch.Kept → List Place → List (Option Elem) → List epoch.Kept
carried_by cursors kept places values = filter (is_behind cursors) (kept ++ epoch.elements_at places values)

-- how many positions of a stretch lie before those that may still be read: all of a stream that isn't a declared one
abbrev pub passed_over : List ℕ → Stretch → ℕ
passed_over cursors s = if nat_lt s.stream 2 then s.count else min s.count (slice_index cursors s.stream - s.first)
