-- Plans over reaches: positions of streams that go into the cells of frames, and of the sink behind them.
use Rattle.std.specs.Prelude.{◌≡◌, ℕ, ◌+◌, ◌<◌, ◌≤◌, List, [], Option, Some, None, is_none, count_by, slice_index, slice_index_or, take, length, map, sum_by}
use Rattle.std.specs.Option.{option_map_or}
use Rattle.std.specs.List.{flat_map, range_with_len}
use Rattle.flow_core_laws.specs.Limits.{activations_limit, positions_limit}
use Rattle.flow_core_laws.specs.declared.plan.FramePlan.{FramePlan}
use Rattle.flow_core_laws.specs.declared.plan.Piece.{Piece}
use Rattle.flow_core_laws.specs.declared.plan.Plan.{Plan}
use Rattle.flow_core_laws.specs.declared.elem.Elem.{Elem}
use Rattle.flow_core_laws.specs.declared.place.Place.{Place}
use Rattle.stream_match_layouts.specs.declared.span.Span.{Span}
use Rattle.stream_match_layouts.specs.declared.layout.Layout.{Layout}
use Rattle.stream_match_layouts.specs.Writers.{writers_on, writer_at, end_of, HasWriters}
use Rattle.stream_match.specs.declared.stretch.Stretch.{Stretch}
use Rattle.stream_match.specs.Stretch.{overlap, pieces_from, by_frame}
use Rattle.flow_core_laws.specs.Place.{places_from}

-- positions of a stream, as many as `count` from `first` on
pub record Reach : Type 0 where
  pub stream : ℕ
  pub first : ℕ
  pub count : ℕ

-- what stands for a reach where there is none
abbrev pub no_reach : Reach
no_reach = record { stream = 0; first = 0; count = 0 }

-- the places of a reach
abbrev pub reach_places : Reach → List Place
reach_places r = places_from r.stream r.first r.count

-- how many positions reaches have
abbrev pub total : List Reach → ℕ
total reaches = sum_by (λ (r : Reach). r.count) reaches

-- a span of a frame
abbrev pub with_frame : ℕ → Span → Span
with_frame f span = record { frame = f; stream = span.stream; write = span.write; first = span.first; count = span.count; offset = span.offset }

-- What a plan is made over: how many frames, with the activation of each; for an activation its number among them, if it
-- is one; the reaches that go into the cells of each frame, and into those of the sink, which has the number behind the
-- last; what the element at a position of a stream is at opening, if it is there; and how many elements each frame writes.
pub record Weave : Type 0 where
  pub frames : ℕ
  pub activations : List ℕ
  pub number : ℕ → Option ℕ
  pub reaches : ℕ → List Reach
  pub opening : ℕ → ℕ → Option Elem
  pub outputs : ℕ → ℕ

-- ---- the cells

-- the cells of a reach, by position
abbrev pub reach_cells : Weave → Reach → List (Option Elem)
reach_cells weave r = map (weave.opening r.stream) (range_with_len r.first r.count)

-- the cells of a frame, by its reaches
abbrev pub frame_cells : Weave → ℕ → List (Option Elem)
frame_cells weave f = flat_map (reach_cells weave) (weave.reaches f)

-- the cells of the first frames
abbrev pub cells_of_first : Weave → ℕ → List (Option Elem)
cells_of_first weave f = flat_map (frame_cells weave) (range_with_len 0 f)

-- ---- the pieces

abbrev pub reach_at : Weave → ℕ → ℕ → Reach
reach_at weave f i = slice_index_or (weave.reaches f) i no_reach

-- The stretch of the reach of a number among those of a frame.
abbrev pub stretch_in : Weave → ℕ → ℕ → Stretch
stretch_in weave f i = record {
  to = f;
  stream = (reach_at weave f i).stream;
  first = (reach_at weave f i).first;
  count = (reach_at weave f i).count;
  at = length (cells_of_first weave f) + total (take i (weave.reaches f));
}

-- the piece from a write span into a stretch: none where its activation is no frame, or they don't overlap
abbrev pub overlap_among : Weave → Stretch → Span → List Piece
overlap_among weave stretch span = option_map_or (λ f. overlap stretch (with_frame f span)) (weave.number span.frame) []

-- the pieces into a stretch
abbrev pub pieces_among : Layout → Weave → Stretch → List Piece
pieces_among layout weave stretch =
    flat_map (λ place. overlap_among weave stretch (writer_at layout stretch.stream place)) (range_with_len 0 (length (writers_on layout stretch.stream)))

-- the pieces into a frame
abbrev pub frame_pieces : Layout → Weave → ℕ → List Piece
frame_pieces layout weave f = flat_map (λ i. pieces_among layout weave (stretch_in weave f i)) (range_with_len 0 (length (weave.reaches f)))

-- all pieces, by the cells that they fill
unfoldable pub woven_pieces : Layout → Weave → List Piece
woven_pieces layout weave = flat_map (frame_pieces layout weave) (range_with_len 0 (weave.frames + 1))

-- ---- the plan

abbrev pub woven_frame : Layout → Weave → ℕ → FramePlan
woven_frame layout weave f = record {
  cell = length (cells_of_first weave f);
  inputs = total (weave.reaches f);
  outputs = weave.outputs f;
  wait = count_by is_none (frame_cells weave f);
  piece = length (by_frame (woven_pieces layout weave) f);
  pieces = length (pieces_from (woven_pieces layout weave) f);
}

abbrev pub woven_sink : Layout → Weave → FramePlan
woven_sink layout weave = record {
  cell = length (cells_of_first weave weave.frames);
  inputs = total (weave.reaches weave.frames);
  outputs = 0;
  wait = count_by is_none (frame_cells weave weave.frames);
  piece = length (by_frame (woven_pieces layout weave) weave.frames);
  pieces = 0;
}

-- The plan over all this. There is one piece for each write span of a frame and each reach that have positions
-- in common, and it carries all of these.
pub record IsWoven (layout : Layout) (weave : Weave) (plan : Plan) : Type 0 where
  pub frames : plan.frames ≡ map (woven_frame layout weave) (range_with_len 0 weave.frames)
  pub sink : plan.sink ≡ woven_sink layout weave
  pub pieces : plan.pieces ≡ by_frame (woven_pieces layout weave) weave.frames
  pub filled : plan.filled ≡ cells_of_first weave (weave.frames + 1)
  pub numbers : plan.numbers ≡ weave.activations

-- The write span at a place covers a position of a stream, and its activation is a frame.
pub record WritesAt (layout : Layout) (weave : Weave) (stream position place frame : ℕ) : Type 0 where
  pub within : place < length (writers_on layout stream)
  pub from : (writer_at layout stream place).first ≤ position
  pub to : position < end_of (writer_at layout stream place)
  pub is_frame : weave.number (writer_at layout stream place).frame ≡ Some frame

-- What the plan needs to be sound: it is within the limits, the streams of its reaches have writers, write
-- spans lie within the outputs of their frames, no element that a frame writes is there at opening, and the frames are
-- activations that ascend.
pub record CanWeave (layout : Layout) (weave : Weave) : Type 0 where
  pub frames_are_few : weave.frames ≤ activations_limit
  pub cells_are_few : length (cells_of_first weave (weave.frames + 1)) ≤ positions_limit
  pub outputs_are_few : sum_by weave.outputs (range_with_len 0 weave.frames) ≤ positions_limit
  pub activations_are_of_frames : length weave.activations ≡ weave.frames
  pub activations_ascend : (f g : ℕ) → f < g → g < weave.frames → slice_index weave.activations f < slice_index weave.activations g
  pub numbers_exist : (a f : ℕ) → weave.number a ≡ Some f → f < weave.frames
  pub have_writers : (f i : ℕ) → f ≤ weave.frames → i < length (weave.reaches f) → HasWriters layout (reach_at weave f i).stream
  pub outputs_fit : (f i place g : ℕ) → f ≤ weave.frames → i < length (weave.reaches f)
      → place < length (writers_on layout (reach_at weave f i).stream) → weave.number (writer_at layout (reach_at weave f i).stream place).frame ≡ Some g
      → (writer_at layout (reach_at weave f i).stream place).offset + (writer_at layout (reach_at weave f i).stream place).count ≤ weave.outputs g
  pub spares : (f i position place g : ℕ) → f ≤ weave.frames → i < length (weave.reaches f)
      → WritesAt layout weave (reach_at weave f i).stream position place g → weave.opening (reach_at weave f i).stream position ≡ None
