-- What restates private functions of the plan of an epoch.
use Rattle.std.specs.Prelude.{◌≡◌, ℕ, ◌+◌, ◌<◌, ◌≤◌, ◌⊎◌, ◌==◌, if◌then◌else◌, List, [], ◌∷◌, ◌++◌, Option, Some, None, slice_get}
use Rattle.std.specs.Prelude.{slice_index, length, map, filter, nat_lt, sum_by, take, count_by, is_none, replicate, ◌^◌, All}
use Rattle.std.specs.Option.{option_map_or}
use Rattle.std.specs.List.{flat_map, range_with_len}
use Rattle.flow_core_laws.specs.Limits.{positions_limit}
use Rattle.flow_core_laws.specs.declared.elem.Elem.{Elem}
use Rattle.flow_core_laws.specs.declared.plan.FramePlan.{FramePlan}
use Rattle.flow_core_laws.specs.declared.plan.Piece.{Piece}
use Rattle.flow_core_epochs.specs.Epoch.{number_among, value_kept}
use Rattle.stream_match.specs.declared.kept.Kept.{Kept}
use Rattle.stream_match.specs.Kept.{kept_of}
use Rattle.stream_match_layouts.specs.declared.layout.Layout.{Layout}
use Rattle.stream_match.specs.declared.stretch.Stretch.{Stretch}
use Rattle.stream_match.specs.declared.reaching.Left.{Left}
use Rattle.stream_match.specs.declared.reaching.Reaching.{Reaching}
use Rattle.stream_match_layouts.specs.declared.span.Span.{Span}
use Rattle.stream_match_layouts.specs.Spans.{read_count, write_count, spans_of}
use Rattle.stream_match.specs.Stretch.{pieces_into, pieces_from, by_frame}
use Rattle.stream_match.specs.Weave.{Reach, total}
use Rattle.stream_match.specs.EpochPlan.{read_reach, staying, leaving_reach, epoch_opening}

-- the numbers ascend
abbrev pub Ascend : List ℕ → Type 0
Ascend frames = (i j : ℕ) → i < j → j < length frames → slice_index frames i < slice_index frames j

-- a kept element lies before a place: on an earlier stream, or at an earlier position
abbrev pub LiesBefore : ℕ → ℕ → Kept → Type 0
LiesBefore stream position k = (k.stream < stream) ⊎ ((k.stream ≡ stream) × (k.position < position))

-- kept elements by their places
abbrev pub AreSorted : List Kept → Type 0
AreSorted kept =
    (i j : ℕ) (k l : Kept) → i < j → slice_get kept i ≡ Some k → slice_get kept j ≡ Some l
    → (k.stream < l.stream) ⊎ ((k.stream ≡ l.stream) × (k.position ≤ l.position))

-- the kept elements before a number lie before a place
abbrev pub AreBefore : List Kept → ℕ → ℕ → ℕ → Type 0
AreBefore kept stream position number = (i : ℕ) (k : Kept) → i < number → slice_get kept i ≡ Some k → LiesBefore stream position k

-- A number is that of the first kept element that doesn't lie before a place.
pub record IsFirstFrom (kept : List Kept) (stream position number : ℕ) : Type 0 where
  pub within : number ≤ length kept
  pub before : AreBefore kept stream position number
  pub behind : (i : ℕ) (k : Kept) → number ≤ i → slice_get kept i ≡ Some k → LiesBefore stream position k → ⊥

-- no element of a stretch is kept
abbrev pub NoneIsKept : List Kept → Stretch → Type 0
NoneIsKept kept stretch =
    (position : ℕ) → stretch.first ≤ position → position < stretch.first + stretch.count
    → value_kept (map kept_of kept) (record { stream = stretch.stream; position = position }) ≡ None

-- a piece by the number of its frame, or none where it comes from no frame
abbrev pub renumbered : List ℕ → Piece → List Piece
renumbered frames p = option_map_or (λ f. record { from = f; to = p.to; first = p.first; count = p.count; at = p.at } ∷ []) (number_among frames p.from) []

-- the pieces into a stretch from the frames
abbrev pub pieces_for : Layout → List ℕ → Stretch → List Piece
pieces_for layout frames stretch = flat_map (renumbered frames) (pieces_into layout stretch)

-- the cells of a stretch
abbrev pub filled_cells : List ℕ → List Kept → Stretch → List (Option Elem)
filled_cells input kept stretch = map (epoch_opening input (map kept_of kept) stretch.stream) (range_with_len stretch.first stretch.count)

-- no cell of a stretch holds anything
abbrev pub IsEmpty : List ℕ → List Kept → Stretch → Type 0
IsEmpty input kept stretch = filled_cells input kept stretch ≡ replicate stretch.count None

-- how many cells of a stretch are empty, where it goes into the frame of a number
abbrev pub empty_in : List ℕ → List Kept → ℕ → Stretch → ℕ
empty_in input kept f stretch = if stretch.to == f then count_by is_none (filled_cells input kept stretch) else 0

-- the stretches of reaches into a frame, from a first cell on
abbrev pub stretches_from : ℕ → ℕ → List Reach → List Stretch
stretches_from to at [] = []
stretches_from to at (r ∷ rs) = record { to = to; stream = r.stream; first = r.first; count = r.count; at = at } ∷ stretches_from to (at + r.count) rs

-- the stretches that have positions
abbrev pub with_positions : List Stretch → List Stretch
with_positions stretches = filter (λ (s : Stretch). nat_lt 0 s.count) stretches

-- the piece into the sink from what a span of the frame of a number writes and leaves, where that has a position
abbrev pub left_piece : List ℕ → (from to at : ℕ) → Span → List Piece
left_piece cursors from to at s =
    if nat_lt 0 (leaving_reach cursors s).count
    then record { from = from; to = to; first = s.offset + staying cursors s; count = (leaving_reach cursors s).count; at = at } ∷ []
    else []

-- the pieces into the sink from spans, from a first cell on
abbrev pub left_pieces : List ℕ → (from to at : ℕ) → List Span → List Piece
left_pieces cursors from to at [] = []
left_pieces cursors from to at (s ∷ ss) = left_piece cursors from to at s ++ left_pieces cursors from to (at + (leaving_reach cursors s).count) ss

-- how many cells the first frames read
abbrev pub reads_before : Layout → List ℕ → ℕ → ℕ
reads_before layout frames f = sum_by (λ a. sum_by read_count (spans_of layout a)) (take f frames)

-- what the frame of a number reads
abbrev pub read_part : Layout → List ℕ → ℕ → List Stretch
read_part layout frames f = stretches_from f (reads_before layout frames f) (map read_reach (spans_of layout (slice_index frames f)))

-- the frame of a number, by all pieces and by how many cells of each frame are empty
abbrev pub epoch_frame : Layout → List ℕ → List Piece → List ℕ → ℕ → FramePlan
epoch_frame layout frames pieces waits f = record {
  cell = reads_before layout frames f;
  inputs = sum_by read_count (spans_of layout (slice_index frames f));
  outputs = sum_by write_count (spans_of layout (slice_index frames f));
  wait = slice_index waits f;
  piece = length (by_frame pieces f);
  pieces = length (pieces_from pieces f);
}

-- What frames read: stretches from the first cell on, those with positions, and the cell behind them.
pub record IsRead (layout : Layout) (frames : List ℕ) (read : Reaching) : Type 0 where
  pub stretches_are : read.stretches ≡ with_positions (flat_map (read_part layout frames) (range_with_len 0 (length frames)))
  pub next_is : read.next ≡ reads_before layout frames (length frames)

-- What leaves frames: stretches with positions behind the cells that they read, the pieces into them, and the cell behind them.
pub record IsLeft (layout : Layout) (frames : List ℕ) (sink : List Reach) (left : Left) : Type 0 where
  pub stretches_are : left.stretches ≡ with_positions (stretches_from (length frames) (reads_before layout frames (length frames)) sink)
  pub pieces_are : left.pieces ≡ flat_map (pieces_for layout frames) left.stretches
  pub next_is : left.next ≡ reads_before layout frames (length frames) + total sink

-- Reaches can leave frames: they are of streams of the layout, and no number passes the end of its type.
pub record CanLeave (layout : Layout) (frames : List ℕ) (sink : List Reach) : Type 0 where
  pub exist : All (λ (r : Reach). r.stream < length layout.writers) sink
  pub small : All (λ (r : Reach). r.first < 2 ^ 62) sink
  pub few : reads_before layout frames (length frames) + total sink ≤ positions_limit
