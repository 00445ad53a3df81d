-- The positions that go into cells, and the pieces that carry output elements there.
use Rattle.std.specs.Prelude.{ℕ, ◌+◌, ◌-◌, ◌==◌, Bool, nat_lt, min, max, if◌then◌else◌, List, [], ◌∷◌, length, filter}
use Rattle.std.specs.List.{flat_map, range_with_len}
use Rattle.flow_core_laws.specs.declared.place.Place.{Place}
use Rattle.flow_core_laws.specs.declared.plan.Piece.{Piece}
use Rattle.flow_core_laws.specs.Place.{places_from}
use Rattle.stream_match_layouts.specs.declared.span.Span.{Span}
use Rattle.stream_match_layouts.specs.declared.layout.Layout.{Layout}
use Rattle.stream_match.specs.declared.stretch.Stretch.{Stretch}
use Rattle.stream_match_layouts.specs.Writers.{writers_on, writer_at, end_of}

-- the places of a stretch
abbrev pub stretch_places : Stretch → List Place
stretch_places stretch = places_from stretch.stream stretch.first stretch.count

-- where a stretch and a write span begin to overlap, and where they cease to
abbrev pub overlap_first : Stretch → Span → ℕ
overlap_first stretch span = max stretch.first span.first

abbrev pub overlap_end : Stretch → Span → ℕ
overlap_end stretch span = min (stretch.first + stretch.count) (end_of span)

-- the piece for the positions that a stretch and a write span have in common
abbrev pub piece_between : Stretch → Span → Piece
piece_between stretch span = record {
  from = span.frame;
  to = stretch.to;
  first = span.offset + (overlap_first stretch span - span.first);
  count = overlap_end stretch span - overlap_first stretch span;
  at = stretch.at + (overlap_first stretch span - stretch.first);
}

-- one piece, or none where they have no position in common
abbrev pub overlap : Stretch → Span → List Piece
overlap stretch span = if nat_lt (overlap_first stretch span) (overlap_end stretch span) then piece_between stretch span ∷ [] else []

-- the pieces into a stretch: one for each write span of its stream that overlaps it
abbrev pub pieces_into : Layout → Stretch → List Piece
pieces_into layout stretch =
    flat_map (λ place. overlap stretch (writer_at layout stretch.stream place)) (range_with_len 0 (length (writers_on layout stretch.stream)))

-- whether a piece comes from a frame
abbrev pub comes_from : ℕ → Piece → Bool
comes_from frame piece = piece.from == frame

-- the pieces that come from a frame
abbrev pub pieces_from : List Piece → ℕ → List Piece
pieces_from pieces frame = filter (comes_from frame) pieces

-- all pieces, by the frames from which they come
abbrev pub by_frame : List Piece → ℕ → List Piece
by_frame pieces frames = flat_map (pieces_from pieces) (range_with_len 0 frames)
