-- What is made of an epoch's stretches is its plan.
use Rattle.std.proofs.Common.{◌≡◌, ℕ, ◌+◌, ◌-◌, ◌^◌, ◌<◌, ◌≤◌, List, [], ◌++◌, Option, None, cond, is_none, count_by, length, map, get_or, refl, sym, ap, ◌∙◌, subst, arith}
use Rattle.std.specs.Prelude.{All, ◌==◌, replicate, nat_lt, sum_by}
use Rattle.std.specs.List.{flat_map, range_with_len}
use Rattle.flow_core_laws.specs.declared.elem.Elem.{Elem}
use Rattle.flow_core_laws.specs.declared.plan.FramePlan.{FramePlan}
use Rattle.flow_core_laws.specs.declared.plan.Piece.{Piece}
use Rattle.stream_match.specs.declared.kept.Kept.{Kept}
use Rattle.stream_match_layouts.specs.declared.layout.Layout.{Layout}
use Rattle.stream_match.specs.declared.stretch.Stretch.{Stretch}
use Rattle.stream_match.specs.declared.reaching.Left.{Left}
use Rattle.stream_match.specs.declared.reaching.Reaching.{Reaching}
use Rattle.stream_match_layouts.specs.Layout.{IsLayout}
use Rattle.stream_match.specs.Stretch.{by_frame, stretch_places}
use Rattle.stream_match.specs.Walking.{IsStretch}
use Rattle.stream_match.specs.Weave.{Reach, Weave, total, cells_of_first, frame_cells, woven_pieces, IsWoven}
use Rattle.stream_match.specs.EpochPlan.{AscendInLayout, epoch_opening, reaches_over, weave_over}
use Rattle.stream_match.specs.Kept.{kept_of}
use Rattle.stream_match.specs.EpochCode.{IsEmpty, pieces_for, renumbered, empty_in, filled_cells, stretches_from, with_positions, reads_before, read_part, epoch_frame, IsRead, IsLeft, CanLeave}
use Rattle.std.proofs.lemmas.List.{length-append, length-replicate}
use Rattle.std.proofs.lemmas.List.Elements.{All-filter}
use Rattle.flow_core_laws.specs.Place.{places_from}
use Rattle.flow_core_laws.proofs.Stretches.{flat_map-none}
use Rattle.stream_match_layouts.specs.Writers.{writers_on, writer_at}
use Rattle.stream_match.proofs.Walks.{overlap_at, overlap-none}
use Rattle.stream_match.proofs.Behind.{over_positions}
use Rattle.stream_match.proofs.Gathering.{all_by_frame}
use Rattle.stream_match.proofs.Rows.{all_pieces_are, all_cells_are, first-reads, left_total}
use Rattle.stream_match.proofs.EpochRows.{reads_are_stretches, sink_are_stretches, pieces_few, cells_length, from_frames, frames_are_woven, reads_into, stretches_into}
use Rattle.stream_match.proofs.Waits.{frame_waits, sink_waits}
use Rattle.stream_match.proofs.Empty.{positions, positions_are, empty_cells, empty_waits}

-- what is read and what leaves
pub record AreRows (layout : Layout) (frames : List ℕ) (sink : List Reach) (reads leaves : List Stretch) (next end : ℕ) : Type 0 where
  pub reads_are : reads ≡ with_positions (flat_map (read_part layout frames) (range_with_len 0 (length frames)))
  pub leaves_are : leaves ≡ with_positions (stretches_from (length frames) next sink)
  pub next_is : next ≡ reads_before layout frames (length frames)
  pub end_is : end ≡ next + total sink

pub rows_of : (layout : Layout) (frames : List ℕ) (sink : List Reach) (read : Reaching) (left : Left) (reads leaves : List Stretch) → IsRead layout frames read → IsLeft layout frames sink left → reads ≡ read.stretches → leaves ≡ left.stretches → AreRows layout frames sink reads leaves read.next left.next
rows_of layout frames sink read left reads leaves is_read is_left reads_are leaves_are = record {
  reads_are = reads_are ∙ is_read.stretches_are;
  leaves_are = leaves_are ∙ is_left.stretches_are ∙ ap (λ n. with_positions (stretches_from (length frames) n sink)) (sym is_read.next_is);
  next_is = is_read.next_is;
  end_is = is_left.next_is ∙ ap (λ n. n + total sink) (sym is_read.next_is);
}

-- the pieces into what is read and into what leaves
pub gathered_both : (layout : Layout) (frames : List ℕ) (sink : List Reach) (left : Left) (reads leaves : List Stretch) (first behind pieces : List Piece) → IsLeft layout frames sink left → leaves ≡ left.stretches
    → first ≡ flat_map (pieces_for layout frames) reads → behind ≡ left.pieces → pieces ≡ first ++ behind → pieces ≡ flat_map (pieces_for layout frames) reads ++ flat_map (pieces_for layout frames) leaves
gathered_both layout frames sink left reads leaves first behind pieces is_left leaves_are first_are behind_are both =
    both ∙ ap (λ ps. ps ++ behind) first_are
    ∙ ap (λ ps. flat_map (pieces_for layout frames) reads ++ ps) (behind_are ∙ is_left.pieces_are ∙ ap (flat_map (pieces_for layout frames)) (sym leaves_are))

-- a stretch without positions has no pieces and no cells
no_pieces : (layout : Layout) (frames : List ℕ) (s : Stretch) → s.count ≡ 0 → pieces_for layout frames s ≡ []
no_pieces layout frames s none = ap (flat_map (renumbered frames)) (flat_map-none (overlap_at layout s) 0 (length (writers_on layout s.stream)) (λ k l u. overlap-none s (writer_at layout s.stream k) (omega arith)))

no_cells : (input : List ℕ) (kept : List Kept) (s : Stretch) → s.count ≡ 0 → filled_cells input kept s ≡ []
no_cells input kept s none = ap (λ n. map (epoch_opening input (map kept_of kept) s.stream) (range_with_len s.first n)) none

pub no_places : (s : Stretch) → s.count ≡ 0 → stretch_places s ≡ []
no_places s none = ap (places_from s.stream s.first) none

module _ (layout : Layout) (is : IsLayout layout) (frames : List ℕ) (are : AscendInLayout layout frames) (sink : List Reach) (can : CanLeave layout frames sink) (reads leaves : List Stretch) (next end : ℕ) (rows : AreRows layout frames sink reads leaves next end) where
  -- going over them is going over all
  over_all : {B : Type 0} (g : Stretch → List B) → ((s : Stretch) → s.count ≡ 0 → g s ≡ [])
      → flat_map g reads ++ flat_map g leaves ≡ flat_map g (flat_map (read_part layout frames) (range_with_len 0 (length frames))) ++ flat_map g (stretches_from (length frames) next sink)
  over_all g none =
      ap (λ xs. xs ++ flat_map g leaves) (ap (flat_map g) rows.reads_are ∙ over_positions g (flat_map (read_part layout frames) (range_with_len 0 (length frames))) none)
      ∙ ap (λ xs. flat_map g (flat_map (read_part layout frames) (range_with_len 0 (length frames))) ++ xs) (ap (flat_map g) rows.leaves_are ∙ over_positions g (stretches_from (length frames) next sink) none)

  pub reads_stretches : All (IsStretch layout) reads
  reads_stretches = subst (All (IsStretch layout)) (sym rows.reads_are) (All-filter (λ (s : Stretch). nat_lt 0 s.count) (IsStretch layout) _ (reads_are_stretches layout is frames are))

  pub leaves_stretches : All (IsStretch layout) leaves
  leaves_stretches = subst (All (IsStretch layout)) (sym rows.leaves_are) (All-filter (λ (s : Stretch). nat_lt 0 s.count) (IsStretch layout) _ (sink_are_stretches layout is frames are sink can next rows.next_is))

  pub reads_into_frames : All (λ (s : Stretch). s.to < length frames + 1) reads
  reads_into_frames = subst (All (λ (s : Stretch). s.to < length frames + 1)) (sym rows.reads_are) (All-filter (λ (s : Stretch). nat_lt 0 s.count) (λ (s : Stretch). s.to < length frames + 1) _ (λ k d lt. let into = reads_into layout frames k d lt in omega arith))

  pub reads_end : All (λ (s : Stretch). s.first + s.count < 2 ^ 64) reads
  reads_end k d lt = let e = (reads_stretches k d lt).ends in omega arith

  pub leaves_end : All (λ (s : Stretch). s.first + s.count < 2 ^ 64) leaves
  leaves_end k d lt = let e = (leaves_stretches k d lt).ends in omega arith

  module _ (input : List ℕ) (kept : List Kept) where
    pub pieces_made : (pieces : List Piece) → pieces ≡ flat_map (pieces_for layout frames) reads ++ flat_map (pieces_for layout frames) leaves → pieces ≡ woven_pieces layout (weave_over layout input frames (map kept_of kept) sink)
    pieces_made pieces made =
        made ∙ over_all (pieces_for layout frames) (no_pieces layout frames)
        ∙ all_pieces_are layout input frames kept sink next rows.next_is

    pub cells_made : (cells : List (Option Elem)) → cells ≡ flat_map (filled_cells input kept) reads ++ flat_map (filled_cells input kept) leaves → cells ≡ cells_of_first (weave_over layout input frames (map kept_of kept) sink) (length frames + 1)
    cells_made cells made =
        made ∙ over_all (filled_cells input kept) (no_cells input kept)
        ∙ all_cells_are layout input frames kept sink next

    pub cells_end : (cells : List (Option Elem)) → cells ≡ flat_map (filled_cells input kept) reads ++ flat_map (filled_cells input kept) leaves → length cells ≡ end
    cells_end cells made = let n = rows.next_is in let e = rows.end_is in omega (arith, ap length (cells_made cells made), cells_length layout is frames are input kept sink)

    module _ (nothing : All (IsEmpty input kept) leaves) where
      left_is : positions leaves ≡ end - next
      left_is = let e = rows.end_is in omega (arith, ap positions rows.leaves_are, positions_are (length frames) next sink)

      -- the cells of what leaves hold nothing, and all wait
      pub cells_left : flat_map (filled_cells input kept) leaves ≡ replicate (end - next) None
      cells_left = empty_cells input kept leaves nothing ∙ ap (λ n. replicate n None) left_is

      pub waits_left : (f : ℕ) → sum_by (empty_in input kept f) leaves ≡ cond {A = ℕ} (f == length frames) (end - next) 0
      waits_left f =
          let into : All (λ (s : Stretch). s.to ≡ length frames) leaves = subst (All (λ (s : Stretch). s.to ≡ length frames)) (sym rows.leaves_are) (All-filter (λ (s : Stretch). nat_lt 0 s.count) (λ (s : Stretch). s.to ≡ length frames) (stretches_from (length frames) next sink) (stretches_into (length frames) next sink)) in
          empty_waits input kept f (length frames) leaves nothing into ∙ ap (λ n. cond {A = ℕ} (f == length frames) n 0) left_is

      pub reads_fit : length (flat_map (filled_cells input kept) reads) + (end - next) ≡ end
      reads_fit =
          let both = cells_end (flat_map (filled_cells input kept) reads ++ flat_map (filled_cells input kept) leaves) refl in
          let parts = length-append (flat_map (filled_cells input kept) reads) (flat_map (filled_cells input kept) leaves) in
          let behind = ap length cells_left ∙ length-replicate {A = Option Elem} (end - next) None in
          omega (arith, both, parts, behind)

    pub pieces_from_frames : (pieces : List Piece) → pieces ≡ flat_map (pieces_for layout frames) reads ++ flat_map (pieces_for layout frames) leaves → All (λ (p : Piece). p.from < length frames) pieces
    pieces_from_frames pieces made = subst (All (λ (p : Piece). p.from < length frames)) (sym (pieces_made pieces made)) (from_frames layout input frames kept sink)

    pub plan_made : (cells : List (Option Elem)) (waits : List ℕ) (pieces : List Piece) (plans : List FramePlan) (placed : List Piece) (numbers : List ℕ) (inputs wait piece : ℕ)
        → cells ≡ flat_map (filled_cells input kept) reads ++ flat_map (filled_cells input kept) leaves
        → ((f : ℕ) → f < length frames + 1 → get_or waits f 0 ≡ sum_by (empty_in input kept f) reads + sum_by (empty_in input kept f) leaves)
        → pieces ≡ flat_map (pieces_for layout frames) reads ++ flat_map (pieces_for layout frames) leaves
        → plans ≡ map (epoch_frame layout frames pieces waits) (range_with_len 0 (length frames))
        → placed ≡ by_frame pieces (length frames) → numbers ≡ frames
        → inputs ≡ end - next → wait ≡ get_or waits (length frames) 0 → piece ≡ length pieces
        → IsWoven layout (weave_over layout input frames (map kept_of kept) sink) (record { frames = plans; sink = record { cell = next; inputs = inputs; outputs = 0; wait = wait; piece = piece; pieces = 0 }; pieces = placed; filled = cells; numbers = numbers })
    plan_made cells waits pieces plans placed numbers inputs wait piece cells_raw waits_raw pieces_raw plans_are placed_are numbers_are inputs_is wait_is piece_is =
        let w : Weave = weave_over layout input frames (map kept_of kept) sink in
        let n = length frames in
        let all = pieces_made pieces pieces_raw in
        let filled = cells_made cells cells_raw in
        let first : next ≡ length (cells_of_first w n) = rows.next_is ∙ sym (first-reads layout input frames kept sink n (omega arith)) in
        let count : end - next ≡ total (reaches_over layout frames sink n) = let e = rows.end_is in omega (arith, left_total layout input frames kept sink) in
        let each : (f : ℕ) → f < length frames → get_or waits f 0 ≡ count_by is_none (frame_cells (weave_over layout input frames (map kept_of kept) sink) f) = λ f lt. waits_raw f (omega arith) ∙ frame_waits input kept layout frames sink reads leaves next rows.reads_are rows.leaves_are f lt in
        let last = wait_is ∙ waits_raw n (omega arith) ∙ sink_waits input kept layout frames sink reads leaves next rows.reads_are rows.leaves_are in
        let placed_all : piece ≡ length (by_frame (woven_pieces layout w) n) = piece_is ∙ ap length all ∙ sym (all_by_frame (woven_pieces layout w) n (from_frames layout input frames kept sink)) in
        record {
          frames = plans_are ∙ frames_are_woven layout input frames kept sink pieces waits all each;
          sink =
              ap (λ k. record { cell = k; inputs = inputs; outputs = 0; wait = wait; piece = piece; pieces = 0 }) first
              ∙ ap (λ k. record { cell = length (cells_of_first w n); inputs = k; outputs = 0; wait = wait; piece = piece; pieces = 0 }) (inputs_is ∙ count)
              ∙ ap (λ k. record { cell = length (cells_of_first w n); inputs = total (reaches_over layout frames sink n); outputs = 0; wait = k; piece = piece; pieces = 0 }) last
              ∙ ap (λ k. record { cell = length (cells_of_first w n); inputs = total (reaches_over layout frames sink n); outputs = 0; wait = count_by is_none (frame_cells w n); piece = k; pieces = 0 }) placed_all;
          pieces = placed_are ∙ ap (λ xs. by_frame xs n) all;
          filled = filled;
          numbers = numbers_are;
        }

  pub pieces_are_few : (pieces : List Piece) → pieces ≡ flat_map (pieces_for layout frames) reads ++ flat_map (pieces_for layout frames) leaves → length pieces ≤ 4194304
  pieces_are_few pieces made =
      let e = ap length (made ∙ over_all (pieces_for layout frames) (no_pieces layout frames)) in
      omega (arith, e, pieces_few layout is frames are sink can next rows.next_is)

  pub end_few : end ≤ 4194304
  end_few = let n = rows.next_is in let e = rows.end_is in let few = can.few in omega (arith, few)
