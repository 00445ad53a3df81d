-- What the parts of an epoch's plan come to.
use Rattle.std.proofs.Common.{◌≡◌, ℕ, zero, suc, ◌+◌, ◌-◌, ◌^◌, ◌<◌, ◌≤◌, Bool, true, false, cond, List, [], ◌∷◌, ◌++◌, Option, Some, None, is_none, count_by, length, take, map, get_or, refl, sym, ap, ◌∙◌, subst, arith}
use Rattle.std.specs.Prelude.{All, ◌==◌}
use Rattle.std.specs.Option.{option_map_or}
use Rattle.std.specs.List.{flat_map, range_with_len}
use Rattle.std.proofs.lemmas.Grind.{flat_map-append}
use Rattle.std.proofs.lemmas.List.{length-append, length-map, get_or-map, take_all}
use Rattle.std.proofs.lemmas.List.Elements.{All-head, All-tail}
use Rattle.std.proofs.lemmas.List.FromFn.{length-map-range_with_len}
use Rattle.std.proofs.lemmas.List.Sums.{sum_by-cons}
use Rattle.std.proofs.lemmas.Option.{slice_get-get_or, slice_get_within, get_or_from_slice_get}
use Rattle.stream_match_layouts.proofs.Pushing.{map-range-same}
use Rattle.flow_core_laws.specs.declared.plan.FramePlan.{FramePlan}
use Rattle.flow_core_laws.specs.declared.plan.Piece.{Piece}
use Rattle.flow_core_epochs.specs.Epoch.{number_among}
use Rattle.flow_core_epochs.proofs.Frames.{numbers_back}
use Rattle.flow_core_epochs.proofs.Members.{Has, of_map, of_flat_map, of_range}
use Rattle.flow_core_epochs.proofs.Carried.{all_has, has_all}
use Rattle.stream_match.specs.declared.kept.Kept.{Kept}
use Rattle.stream_match_layouts.specs.declared.layout.Layout.{Layout}
use Rattle.stream_match.specs.declared.stretch.Stretch.{Stretch}
use Rattle.stream_match_layouts.specs.Layout.{IsLayout}
use Rattle.stream_match_layouts.specs.Writers.{no_span}
use Rattle.stream_match_layouts.specs.Spans.{spans_of, frame_count}
use Rattle.stream_match.specs.Stretch.{pieces_into}
use Rattle.stream_match.specs.Walking.{IsStretch, HasPlace}
use Rattle.stream_match.specs.Weave.{Reach, no_reach, total, cells_of_first, frame_cells, woven_pieces, woven_frame}
use Rattle.stream_match.specs.EpochPlan.{AscendInLayout, read_reach, leaving_reach, leaving_reaches, weave_over}
use Rattle.stream_match.specs.Kept.{kept_of}
use Rattle.stream_match.specs.EpochCode.{renumbered, pieces_for, stretches_from, reads_before, read_part, epoch_frame, CanLeave}
use Rattle.stream_match.proofs.Walks.{pieces_into_few}
use Rattle.stream_match_layouts.proofs.Windows.{map_map}
use Rattle.stream_match.proofs.CellSums.{stream_facts}
use Rattle.stream_match.proofs.Weaving.{total-more, total-take-le, first-more}
use Rattle.stream_match.proofs.WovenPieces.{woven_from}
use Rattle.stream_match.proofs.EpochWeave.{span_stream}
use Rattle.stream_match.proofs.Behind.{read_total, span_small, spans_exist, reads_few, left_few, reads_more, parts_more}
use Rattle.stream_match.proofs.Rows.{at_stretch, length-stretches, first-reads, reaches-left, frame_is_woven}

-- all stretches from a cell on
all_stretches : (P : Stretch → Type 0) (to at : ℕ) (rs : List Reach) → ((i : ℕ) → i < length rs → P (record { to = to; stream = (get_or rs i no_reach).stream; first = (get_or rs i no_reach).first; count = (get_or rs i no_reach).count; at = at + total (take i rs) })) → All P (stretches_from to at rs)
all_stretches P to at rs h = λ k d lt. let l : k < length rs = omega (arith, length-stretches to at rs) in subst P (sym (at_stretch to at rs k d l)) (h k l)

pub stretches_into : (to at : ℕ) (rs : List Reach) → All (λ (s : Stretch). s.to ≡ to) (stretches_from to at rs)
stretches_into to at rs = all_stretches (λ (s : Stretch). s.to ≡ to) to at rs (λ i lt. refl)

-- a stretch has no more pieces from frames than positions
few_renumbered : (frames : List ℕ) (ps : List Piece) → length (flat_map (renumbered frames) ps) ≤ length ps
few_renumbered frames [] = omega arith
few_renumbered frames (p ∷ ps) =
    let a : length (flat_map (renumbered frames) (p ∷ ps)) ≡ length (renumbered frames p) + length (flat_map (renumbered frames) ps) = length-append (renumbered frames p) (flat_map (renumbered frames) ps) in
    omega (arith, a, few_renumbered frames ps, one (number_among frames p.from))
  where
    one : (o : Option ℕ) → length {A = Piece} (option_map_or (λ f. record { from = f; to = p.to; first = p.first; count = p.count; at = p.at } ∷ []) o []) ≤ 1
    one None = omega arith
    one (Some f) = omega arith

few_from : (layout : Layout) (frames : List ℕ) (to at : ℕ) (rs : List Reach) → All (IsStretch layout) (stretches_from to at rs) → length (flat_map (pieces_for layout frames) (stretches_from to at rs)) ≤ total rs
few_from layout frames to at [] all = omega arith
few_from layout frames to at (r ∷ rs) all =
    let s : Stretch = record { to = to; stream = r.stream; first = r.first; count = r.count; at = at } in
    let rest = stretches_from to (at + r.count) rs in
    let head = All-head (IsStretch layout) s rest all in
    let a : length (flat_map (pieces_for layout frames) (s ∷ rest)) ≡ length (pieces_for layout frames s) + length (flat_map (pieces_for layout frames) rest) = length-append (pieces_for layout frames s) (flat_map (pieces_for layout frames) rest) in
    let b = few_renumbered frames (pieces_into layout s) in
    let c : length (pieces_into layout s) ≤ r.count = pieces_into_few layout s head.has_writers in
    let d = few_from layout frames to (at + r.count) rs (All-tail (IsStretch layout) s rest all) in
    let e : total (r ∷ rs) ≡ r.count + total rs = total-cons r rs in
    omega (arith, a, b, c, d, e)
  where
    total-cons : (r : Reach) (rs : List Reach) → total (r ∷ rs) ≡ r.count + total rs
    total-cons r rs = sum_by-cons (λ (x : Reach). x.count) r rs

module _ (layout : Layout) (is : IsLayout layout) (frames : List ℕ) (are : AscendInLayout layout frames) where
  -- ---- stretches

  reads_at : (f : ℕ) → f < length frames → All (IsStretch layout) (read_part layout frames f)
  reads_at f lt = all_stretches (IsStretch layout) f (reads_before layout frames f) rs (λ i l. one i l)
    where
      a : ℕ
      a = get_or frames f 0

      rs : List Reach
      rs = map read_reach (spans_of layout (get_or frames f 0))

      one : (i : ℕ) → i < length (map read_reach (spans_of layout (get_or frames f 0))) → IsStretch layout (record { to = f; stream = (get_or (map read_reach (spans_of layout (get_or frames f 0))) i no_reach).stream; first = (get_or (map read_reach (spans_of layout (get_or frames f 0))) i no_reach).first; count = (get_or (map read_reach (spans_of layout (get_or frames f 0))) i no_reach).count; at = reads_before layout frames f + total (take i (map read_reach (spans_of layout (get_or frames f 0)))) })
      one i l =
          let spans = spans_of layout (get_or frames f 0) in
          let exists = are.exist f lt in
          let within : i < length spans = omega (arith, length-map spans read_reach) in
          let s = get_or spans i no_span in
          let same : get_or (map read_reach spans) i no_reach ≡ read_reach s = get_or-map read_reach spans i no_span no_reach within in
          let stream = ap (λ (r : Reach). r.stream) same in
          let first = ap (λ (r : Reach). r.first) same in
          let small = span_small layout is (get_or frames f 0) s exists (i, slice_get-get_or spans i no_span within) in
          let sums = total-more (map read_reach spans) i l in
          let whole = total-take-le (map read_reach spans) (i + 1) in
          let reads = read_total spans in
          let more = reads_more layout is frames f lt in
          let few = reads_few layout is frames are (f + 1) in
          stream_facts layout is (record { to = f; stream = (get_or (map read_reach spans) i no_reach).stream; first = (get_or (map read_reach spans) i no_reach).first; count = (get_or (map read_reach spans) i no_reach).count; at = reads_before layout frames f + total (take i (map read_reach spans)) })
          (omega (arith, stream, spans_exist layout is (get_or frames f 0) i no_span exists within)) (omega (arith, first, small, sums, whole, reads, more, few)) (omega (arith, sums, whole, reads, more, few))

  pub reads_are_stretches : All (IsStretch layout) (flat_map (read_part layout frames) (range_with_len 0 (length frames)))
  reads_are_stretches = has_all (IsStretch layout) (flat_map (read_part layout frames) (range_with_len 0 (length frames))) (λ s h.
      let r = of_flat_map (read_part layout frames) (range_with_len 0 (length frames)) s h in
      let f : ℕ = r.0 in
      let low = of_range 0 (length frames) f r.1 in
      all_has (IsStretch layout) (read_part layout frames f) s (reads_at f (let l = low.1 in omega arith)) r.2)

  -- what leaves by cursors
  pub leaving_can : (cursors : List ℕ) → length cursors ≡ length layout.writers → All (λ cursor. cursor < 2 ^ 62) cursors → CanLeave layout frames (leaving_reaches layout frames cursors)
  leaving_can cursors len small = record {
    exist = has_all (λ (r : Reach). r.stream < length layout.writers) (leaving_reaches layout frames cursors) (λ r h. (at_reach r h).0);
    small = has_all (λ (r : Reach). r.first < 2 ^ 62) (leaving_reaches layout frames cursors) (λ r h. (at_reach r h).1);
    few = omega (arith, left_few layout is frames are cursors (length frames), ap (λ fs. total (leaving_reaches layout fs cursors)) (take_all (length frames) frames (omega arith)));
  }
    where
      from : (b : Bool) (n first : ℕ) → n < 2 ^ 62 → first < 2 ^ 62 → first + (cond {A = ℕ} b 0 n - first) < 2 ^ 62
      from true n first h g = omega arith
      from false n first h g = omega arith

      at_reach : (r : Reach) → Has (leaving_reaches layout frames cursors) r → (r.stream < length layout.writers) × (r.first < 2 ^ 62)
      at_reach r h =
          let (a, a_in, r_in) = of_flat_map (λ a. map (leaving_reach cursors) (spans_of layout a)) frames r h in
          let (s, s_in, s_is) = of_map (leaving_reach cursors) (spans_of layout a) r r_in in
          let exists : a < frame_count layout = subst (λ b. b < frame_count layout) (get_or_from_slice_get frames a_in.0 a 0 a_in.1) (are.exist a_in.0 (slice_get_within frames a_in.0 a a_in.1)) in
          let stream = span_stream layout is a s exists s_in in
          let first = span_small layout is a s exists s_in in
          let cursor = small s.stream 0 (omega (arith, len)) in (
            subst (λ (q : Reach). q.stream < length layout.writers) s_is stream,
            subst (λ (q : Reach). q.first < 2 ^ 62) s_is (from (s.stream == 1) (get_or cursors s.stream 0) s.first cursor first),
          )

  pub sink_are_stretches : (sink : List Reach) → CanLeave layout frames sink → (next : ℕ) → next ≡ reads_before layout frames (length frames) → All (IsStretch layout) (stretches_from (length frames) next sink)
  sink_are_stretches sink can next next_is = all_stretches (IsStretch layout) (length frames) next sink (λ i l. one i l)
    where
      one : (i : ℕ) → i < length sink → IsStretch layout (record { to = length frames; stream = (get_or sink i no_reach).stream; first = (get_or sink i no_reach).first; count = (get_or sink i no_reach).count; at = next + total (take i sink) })
      one i l =
          let r = get_or sink i no_reach in
          let exists = can.exist i no_reach l in
          let first = can.small i no_reach l in
          let few = can.few in
          let sums = total-more sink i l in
          let whole = total-take-le sink (i + 1) in
          stream_facts layout is (record { to = length frames; stream = r.stream; first = r.first; count = r.count; at = next + total (take i sink) }) exists (omega (arith, first, sums, whole, few)) (omega (arith, sums, whole, few))

  -- ---- how many

  reads_pieces : (k : ℕ) → k ≤ length frames → length (flat_map (pieces_for layout frames) (flat_map (read_part layout frames) (range_with_len 0 k))) ≤ reads_before layout frames k
  reads_pieces zero le = omega arith
  reads_pieces (suc k) le =
      let e : suc k ≡ k + 1 = omega arith in
      let g = pieces_for layout frames in
      let before = flat_map (read_part layout frames) (range_with_len 0 k) in
      let a = ap (λ m. length (flat_map g (flat_map (read_part layout frames) (range_with_len 0 m)))) e ∙ ap (λ xs. length (flat_map g xs)) (parts_more layout is frames k) ∙ ap length (flat_map-append g before (read_part layout frames k)) ∙ length-append (flat_map g before) (flat_map g (read_part layout frames k)) in
      let b = few_from layout frames k (reads_before layout frames k) (map read_reach (spans_of layout (get_or frames k 0))) (reads_at k (omega arith)) in
      let c = ap (reads_before layout frames) e ∙ reads_more layout is frames k (omega arith) in
      omega (arith, a, b, c, read_total (spans_of layout (get_or frames k 0)), reads_pieces k (omega arith))

  pub pieces_few : (sink : List Reach) → CanLeave layout frames sink → (next : ℕ) → next ≡ reads_before layout frames (length frames)
      → length (flat_map (pieces_for layout frames) (flat_map (read_part layout frames) (range_with_len 0 (length frames))) ++ flat_map (pieces_for layout frames) (stretches_from (length frames) next sink)) ≤ 4194304
  pieces_few sink can next next_is =
      let n = length frames in
      let a = length-append (flat_map (pieces_for layout frames) (flat_map (read_part layout frames) (range_with_len 0 n))) (flat_map (pieces_for layout frames) (stretches_from n next sink)) in
      let b = reads_pieces n (omega arith) in
      let c = few_from layout frames n next sink (sink_are_stretches sink can next next_is) in
      let few = can.few in
      omega (arith, a, b, c, few)

  pub cells_length : (input : List ℕ) (kept : List Kept) (sink : List Reach) → length (cells_of_first (weave_over layout input frames (map kept_of kept) sink) (length frames + 1)) ≡ reads_before layout frames (length frames) + total sink
  cells_length input kept sink =
      let n = length frames in
      omega (arith, first-more (weave_over layout input frames (map kept_of kept) sink) n, first-reads layout input frames kept sink n (omega arith), ap total (reaches-left layout input frames kept sink))

-- ---- the frames that stretches go into

pub reads_into : (layout : Layout) (frames : List ℕ) → All (λ (s : Stretch). s.to < length frames) (flat_map (read_part layout frames) (range_with_len 0 (length frames)))
reads_into layout frames = has_all (λ (s : Stretch). s.to < length frames) (flat_map (read_part layout frames) (range_with_len 0 (length frames))) (λ s h.
    let r = of_flat_map (read_part layout frames) (range_with_len 0 (length frames)) s h in
    let f : ℕ = r.0 in
    let low = of_range 0 (length frames) f r.1 in
    let lt : f < length frames = (let l = low.1 in omega arith) in
    let into : s.to ≡ f = all_has (λ (t : Stretch). t.to ≡ f) (read_part layout frames f) s (stretches_into f (reads_before layout frames f) (map read_reach (spans_of layout (get_or frames f 0)))) r.2 in
    omega arith)

-- ---- pieces and frames

pub from_frames : (layout : Layout) (input frames : List ℕ) (kept : List Kept) (sink : List Reach) → All (λ (p : Piece). p.from < length frames) (woven_pieces layout (weave_over layout input frames (map kept_of kept) sink))
from_frames layout input frames kept sink = has_all (λ (p : Piece). p.from < length frames) (woven_pieces layout (weave_over layout input frames (map kept_of kept) sink)) (λ p h.
    let o = woven_from layout (weave_over layout input frames (map kept_of kept) sink) h.0 p h.1 in
    let from : p.from ≡ o.writer = ap (λ (q : Piece). q.from) o.is in
    let lt = slice_get_within frames o.writer _ (numbers_back frames _ o.writer o.numbered) in
    omega arith)

pub has_place : (layout : Layout) (frames : List ℕ) (pieces : List Piece) (waits : List ℕ) (plans : List FramePlan) → plans ≡ map (epoch_frame layout frames pieces waits) (range_with_len 0 (length frames)) → HasPlace plans pieces (length frames)
has_place layout frames pieces waits plans are = record {
  one_each = ap length are ∙ length-map-range_with_len (epoch_frame layout frames pieces waits) 0 (length frames);
  places = ap (map (λ (f : FramePlan). f.piece)) are ∙ map_map (epoch_frame layout frames pieces waits) (λ (f : FramePlan). f.piece) (range_with_len 0 (length frames));
}

pub frames_are_woven : (layout : Layout) (input frames : List ℕ) (kept : List Kept) (sink : List Reach) (pieces : List Piece) (waits : List ℕ) → pieces ≡ woven_pieces layout (weave_over layout input frames (map kept_of kept) sink)
    → ((f : ℕ) → f < length frames → get_or waits f 0 ≡ count_by is_none (frame_cells (weave_over layout input frames (map kept_of kept) sink) f))
    → map (epoch_frame layout frames pieces waits) (range_with_len 0 (length frames)) ≡ map (woven_frame layout (weave_over layout input frames (map kept_of kept) sink)) (range_with_len 0 (length frames))
frames_are_woven layout input frames kept sink pieces waits pieces_are waits_are =
    ap (λ ps. map (epoch_frame layout frames ps waits) (range_with_len 0 (length frames))) pieces_are
    ∙ map-range-same (epoch_frame layout frames (woven_pieces layout (weave_over layout input frames (map kept_of kept) sink)) waits) (woven_frame layout (weave_over layout input frames (map kept_of kept) sink)) 0 (length frames) (λ f l u. let lt : f < length frames = omega arith in frame_is_woven layout input frames kept sink f waits lt (waits_are f lt))
