-- The rows of stretches of an epoch, and the plan over reaches.
use Rattle.std.proofs.Common.{◌≡◌, ℕ, zero, suc, ◌+◌, ◌<◌, ◌≤◌, Bool, true, false, cond, List, [], ◌∷◌, ◌++◌, Option, Some, None, is_none, count_by, length, take, map, get_or, refl, sym, ap, ◌∙◌, arith, zero-add}
use Rattle.std.specs.Prelude.{sum_by, nat_lt}
use Rattle.std.specs.Option.{option_map_or}
use Rattle.std.specs.List.{flat_map, range_with_len}
use Rattle.std.proofs.lemmas.Bool.{lt-ltb, le-ltb}
use Rattle.std.proofs.lemmas.Grind.{flat_map-append}
use Rattle.std.proofs.lemmas.List.FromFn.{fill_by_all}
use Rattle.std.proofs.lemmas.List.Sums.{sum_by-cons, sum_by_more}
use Rattle.flow_core_laws.specs.declared.plan.Piece.{Piece}
use Rattle.flow_core_laws.proofs.Stretches.{flat_map-range_more, flat_map-range-same}
use Rattle.flow_core_epochs.specs.Epoch.{number_among}
use Rattle.stream_match.specs.declared.kept.Kept.{Kept}
use Rattle.stream_match_layouts.specs.declared.span.Span.{Span}
use Rattle.stream_match_layouts.specs.declared.layout.Layout.{Layout}
use Rattle.stream_match.specs.declared.stretch.Stretch.{Stretch}
use Rattle.stream_match_layouts.specs.Writers.{writers_on, writer_at}
use Rattle.stream_match_layouts.specs.Spans.{read_count, write_count, spans_of}
use Rattle.stream_match.specs.Stretch.{overlap_first, overlap_end, piece_between, overlap, by_frame, pieces_from, stretch_places}
use Rattle.stream_match.specs.Weave.{Reach, no_reach, Weave, total, reach_places, reach_cells, frame_cells, cells_of_first, stretch_in, with_frame, overlap_among, pieces_among, frame_pieces, woven_pieces, woven_frame}
use Rattle.stream_match.specs.EpochPlan.{read_reach, reaches_over, weave_over}
use Rattle.stream_match.specs.Kept.{kept_of}
use Rattle.stream_match.specs.EpochCode.{renumbered, pieces_for, filled_cells, stretches_from, reads_before, read_part, epoch_frame}
use Rattle.stream_match.proofs.Weaving.{first-more}
use Rattle.stream_match.proofs.Behind.{read_total}

-- ---- lists

pub flat_map-map : {A B C : Type 0} (g : B → List C) (f : A → B) (xs : List A) → flat_map g (map f xs) ≡ flat_map (λ x. g (f x)) xs
flat_map-map g f [] = refl
flat_map-map g f (x ∷ xs) = ap (λ ys. g (f x) ++ ys) (flat_map-map g f xs)

pub flat_map-flat_map : {A B C : Type 0} (g : B → List C) (f : A → List B) (xs : List A) → flat_map g (flat_map f xs) ≡ flat_map (λ x. flat_map g (f x)) xs
flat_map-flat_map g f [] = refl
flat_map-flat_map g f (x ∷ xs) = flat_map-append g (f x) (flat_map f xs) ∙ ap (λ ys. flat_map g (f x) ++ ys) (flat_map-flat_map g f xs)

flat_map-same : {A B : Type 0} (f g : A → List B) (xs : List A) → ((x : A) → f x ≡ g x) → flat_map f xs ≡ flat_map g xs
flat_map-same f g [] same = refl
flat_map-same f g (x ∷ xs) same = ap (λ ys. ys ++ flat_map f xs) (same x) ∙ ap (λ ys. g x ++ ys) (flat_map-same f g xs same)

-- ---- stretches from a cell on

stretch_of : ℕ → Reach → ℕ → Stretch
stretch_of to r at = record { to = to; stream = r.stream; first = r.first; count = r.count; at = at }

pub length-stretches : (to at : ℕ) (rs : List Reach) → length (stretches_from to at rs) ≡ length rs
length-stretches to at [] = refl
length-stretches to at (r ∷ rs) = ap suc (length-stretches to (at + r.count) rs)

pub at_stretch : (to at : ℕ) (rs : List Reach) (i : ℕ) (d : Stretch) → i < length rs → get_or (stretches_from to at rs) i d ≡ record { to = to; stream = (get_or rs i no_reach).stream; first = (get_or rs i no_reach).first; count = (get_or rs i no_reach).count; at = at + total (take i rs) }
at_stretch to at [] i d lt = absurd (omega arith)
at_stretch to at (r ∷ rs) zero d lt = ap (λ k. record { to = to; stream = r.stream; first = r.first; count = r.count; at = k }) (let e : at ≡ at + 0 = omega arith in e)
at_stretch to at (r ∷ rs) (suc i) d lt =
    at_stretch to (at + r.count) rs i d (omega arith)
    ∙ ap (λ k. record { to = to; stream = (get_or rs i no_reach).stream; first = (get_or rs i no_reach).first; count = (get_or rs i no_reach).count; at = k }) (let s : total (take (suc i) (r ∷ rs)) ≡ r.count + total (take i rs) = sum_by-cons (λ (x : Reach). x.count) r (take i rs) in let e : at + r.count + total (take i rs) ≡ at + total (take (suc i) (r ∷ rs)) = omega (arith, s) in e)

no_stretch : Stretch
no_stretch = record { to = 0; stream = 0; first = 0; count = 0; at = 0 }

stretches-are : (to at : ℕ) (rs : List Reach) → stretches_from to at rs ≡ map (λ i. record { to = to; stream = (get_or rs i no_reach).stream; first = (get_or rs i no_reach).first; count = (get_or rs i no_reach).count; at = at + total (take i rs) }) (range_with_len 0 (length rs))
stretches-are to at rs = fill_by_all (λ i. record { to = to; stream = (get_or rs i no_reach).stream; first = (get_or rs i no_reach).first; count = (get_or rs i no_reach).count; at = at + total (take i rs) }) (stretches_from to at rs) (length rs) no_stretch (length-stretches to at rs) (λ i lt. at_stretch to at rs i no_stretch lt)

pub cells_from : (layout : Layout) (input frames : List ℕ) (kept : List Kept) (sink : List Reach) (to at : ℕ) (rs : List Reach) → flat_map (filled_cells input kept) (stretches_from to at rs) ≡ flat_map (reach_cells (weave_over layout input frames (map kept_of kept) sink)) rs
cells_from layout input frames kept sink to at [] = refl
cells_from layout input frames kept sink to at (r ∷ rs) = ap (λ xs. reach_cells (weave_over layout input frames (map kept_of kept) sink) r ++ xs) (cells_from layout input frames kept sink to (at + r.count) rs)

pub places_from_stretches : (to at : ℕ) (rs : List Reach) → flat_map stretch_places (stretches_from to at rs) ≡ flat_map reach_places rs
places_from_stretches to at [] = refl
places_from_stretches to at (r ∷ rs) = ap (λ xs. reach_places r ++ xs) (places_from_stretches to (at + r.count) rs)

-- ---- one frame

module _ (layout : Layout) (input frames : List ℕ) (kept : List Kept) (sink : List Reach) where
  abbrev w : Weave
  w = weave_over layout input frames (map kept_of kept) sink

  pub reaches-read : (f : ℕ) → f < length frames → reaches_over layout frames sink f ≡ map read_reach (spans_of layout (get_or frames f 0))
  reaches-read f lt = ap (λ b. cond b (map read_reach (spans_of layout (get_or frames f 0))) sink) (lt-ltb f (length frames) lt)

  pub reaches-left : reaches_over layout frames sink (length frames) ≡ sink
  reaches-left = ap (λ b. cond b (map read_reach (spans_of layout (get_or frames (length frames) 0))) sink) (le-ltb (length frames) (length frames) (omega arith))

  pub first-reads : (k : ℕ) → k ≤ length frames → length (cells_of_first (weave_over layout input frames (map kept_of kept) sink) k) ≡ reads_before layout frames k
  first-reads zero le = refl
  first-reads (suc k) le =
      let e : suc k ≡ k + 1 = omega arith in
      let a = ap (λ m. length (cells_of_first (weave_over layout input frames (map kept_of kept) sink) m)) e ∙ first-more (weave_over layout input frames (map kept_of kept) sink) k in
      let b = ap total (reaches-read k (omega arith)) ∙ read_total (spans_of layout (get_or frames k 0)) in
      let c = ap (reads_before layout frames) e ∙ sum_by_more (λ a. sum_by read_count (spans_of layout a)) frames k 0 (omega arith) in
      omega (arith, a, b, c, first-reads k (omega arith))

  among : (stretch : Stretch) (span : Span) → overlap_among (weave_over layout input frames (map kept_of kept) sink) stretch span ≡ flat_map (renumbered frames) (overlap stretch span)
  among stretch span = as_cond (number_among frames span.frame) ∙ by_test (nat_lt (overlap_first stretch span) (overlap_end stretch span))
    where
      as_cond : (o : Option ℕ) → option_map_or (λ f. overlap stretch (with_frame f span)) o [] ≡ option_map_or (λ f. cond (nat_lt (overlap_first stretch span) (overlap_end stretch span)) (piece_between stretch (with_frame f span) ∷ []) []) o []
      as_cond None = refl
      as_cond (Some f) = refl

      one : (o : Option ℕ) → option_map_or (λ f. piece_between stretch (with_frame f span) ∷ []) o [] ≡ option_map_or (λ f. record { from = f; to = (piece_between stretch span).to; first = (piece_between stretch span).first; count = (piece_between stretch span).count; at = (piece_between stretch span).at } ∷ []) o [] ++ []
      one None = refl
      one (Some f) = refl

      nothing : (o : Option ℕ) → option_map_or {T = ℕ} {U = List Piece} (λ f. []) o [] ≡ []
      nothing None = refl
      nothing (Some f) = refl

      by_test : (b : Bool) → option_map_or (λ f. cond b (piece_between stretch (with_frame f span) ∷ []) []) (number_among frames span.frame) [] ≡ flat_map (renumbered frames) (cond b (piece_between stretch span ∷ []) [])
      by_test true = one (number_among frames span.frame)
      by_test false = nothing (number_among frames span.frame)

  into : (stretch : Stretch) → pieces_among layout (weave_over layout input frames (map kept_of kept) sink) stretch ≡ pieces_for layout frames stretch
  into stretch =
      flat_map-same (λ place. overlap_among (weave_over layout input frames (map kept_of kept) sink) stretch (writer_at layout stretch.stream place)) (λ place. flat_map (renumbered frames) (overlap stretch (writer_at layout stretch.stream place))) (range_with_len 0 (length (writers_on layout stretch.stream))) (λ place. among stretch (writer_at layout stretch.stream place))
      ∙ sym (flat_map-flat_map (renumbered frames) (λ place. overlap stretch (writer_at layout stretch.stream place)) (range_with_len 0 (length (writers_on layout stretch.stream))))

  -- the pieces into a frame, by its stretches
  into_frame : (f at : ℕ) (rs : List Reach) → at ≡ length (cells_of_first (weave_over layout input frames (map kept_of kept) sink) f) → reaches_over layout frames sink f ≡ rs → flat_map (pieces_for layout frames) (stretches_from f at rs) ≡ frame_pieces layout (weave_over layout input frames (map kept_of kept) sink) f
  into_frame f at rs at_is rs_are =
      ap (λ xs. flat_map (pieces_for layout frames) (stretches_from f at xs)) (sym rs_are)
      ∙ ap (λ k. flat_map (pieces_for layout frames) (stretches_from f k (reaches_over layout frames sink f))) at_is
      ∙ ap (flat_map (pieces_for layout frames)) (stretches-are f (length (cells_of_first (weave_over layout input frames (map kept_of kept) sink) f)) (reaches_over layout frames sink f))
      ∙ flat_map-map (pieces_for layout frames) (stretch_in (weave_over layout input frames (map kept_of kept) sink) f) (range_with_len 0 (length (reaches_over layout frames sink f)))
      ∙ sym (flat_map-same (λ i. pieces_among layout (weave_over layout input frames (map kept_of kept) sink) (stretch_in (weave_over layout input frames (map kept_of kept) sink) f i)) (λ i. pieces_for layout frames (stretch_in (weave_over layout input frames (map kept_of kept) sink) f i)) (range_with_len 0 (length (reaches_over layout frames sink f))) (λ i. into (stretch_in (weave_over layout input frames (map kept_of kept) sink) f i)))

  -- ---- all frames

  pub all_pieces_are : (next : ℕ) → next ≡ reads_before layout frames (length frames)
      → flat_map (pieces_for layout frames) (flat_map (read_part layout frames) (range_with_len 0 (length frames))) ++ flat_map (pieces_for layout frames) (stretches_from (length frames) next sink)
      ≡ woven_pieces layout (weave_over layout input frames (map kept_of kept) sink)
  unfolding woven_pieces
  all_pieces_are next next_is =
      let g = frame_pieces layout (weave_over layout input frames (map kept_of kept) sink) in
      let n = length frames in
      ap (λ xs. xs ++ flat_map (pieces_for layout frames) (stretches_from n next sink))
      (flat_map-flat_map (pieces_for layout frames) (read_part layout frames) (range_with_len 0 n)
      ∙ flat_map-range-same (λ f. flat_map (pieces_for layout frames) (read_part layout frames f)) g 0 n (λ f l u. into_frame f (reads_before layout frames f) (map read_reach (spans_of layout (get_or frames f 0))) (sym (first-reads f (omega arith))) (reaches-read f (omega arith))))
      ∙ ap (λ xs. flat_map g (range_with_len 0 n) ++ xs) (into_frame n next sink (next_is ∙ sym (first-reads n (omega arith))) reaches-left)
      ∙ sym (flat_map-range_more g 0 n ∙ ap (λ k. flat_map g (range_with_len 0 n) ++ g k) (zero-add n))

  pub all_cells_are : (next : ℕ)
      → flat_map (filled_cells input kept) (flat_map (read_part layout frames) (range_with_len 0 (length frames))) ++ flat_map (filled_cells input kept) (stretches_from (length frames) next sink)
      ≡ cells_of_first (weave_over layout input frames (map kept_of kept) sink) (length frames + 1)
  all_cells_are next =
      let g = frame_cells (weave_over layout input frames (map kept_of kept) sink) in
      let n = length frames in
      ap (λ xs. xs ++ flat_map (filled_cells input kept) (stretches_from n next sink))
      (flat_map-flat_map (filled_cells input kept) (read_part layout frames) (range_with_len 0 n)
      ∙ flat_map-range-same (λ f. flat_map (filled_cells input kept) (read_part layout frames f)) g 0 n (λ f l u. cells_from layout input frames kept sink f (reads_before layout frames f) (map read_reach (spans_of layout (get_or frames f 0))) ∙ ap (flat_map (reach_cells (weave_over layout input frames (map kept_of kept) sink))) (sym (reaches-read f (omega arith)))))
      ∙ ap (λ xs. flat_map g (range_with_len 0 n) ++ xs) (cells_from layout input frames kept sink n next sink ∙ ap (flat_map (reach_cells (weave_over layout input frames (map kept_of kept) sink))) (sym reaches-left))
      ∙ sym (flat_map-range_more g 0 n ∙ ap (λ k. flat_map g (range_with_len 0 n) ++ g k) (zero-add n))

  pub frame_is_woven : (f : ℕ) (waits : List ℕ) → f < length frames → get_or waits f 0 ≡ count_by is_none (frame_cells (weave_over layout input frames (map kept_of kept) sink) f)
      → epoch_frame layout frames (woven_pieces layout (weave_over layout input frames (map kept_of kept) sink)) waits f ≡ woven_frame layout (weave_over layout input frames (map kept_of kept) sink) f
  frame_is_woven f waits lt wait_is =
      let all = woven_pieces layout (weave_over layout input frames (map kept_of kept) sink) in
      let inputs : sum_by read_count (spans_of layout (get_or frames f 0)) ≡ total (reaches_over layout frames sink f) = sym (ap total (reaches-read f lt) ∙ read_total (spans_of layout (get_or frames f 0))) in
      let o = sum_by write_count (spans_of layout (get_or frames f 0)) in
      ap (λ n. record { cell = n; inputs = sum_by read_count (spans_of layout (get_or frames f 0)); outputs = o; wait = get_or waits f 0; piece = length (by_frame all f); pieces = length (pieces_from all f) }) (sym (first-reads f (omega arith)))
      ∙ ap (λ n. record { cell = length (cells_of_first (weave_over layout input frames (map kept_of kept) sink) f); inputs = sum_by read_count (spans_of layout (get_or frames f 0)); outputs = o; wait = n; piece = length (by_frame all f); pieces = length (pieces_from all f) }) wait_is
      ∙ ap (λ n. record { cell = length (cells_of_first (weave_over layout input frames (map kept_of kept) sink) f); inputs = n; outputs = o; wait = count_by is_none (frame_cells (weave_over layout input frames (map kept_of kept) sink) f); piece = length (by_frame all f); pieces = length (pieces_from all f) }) inputs

  -- the cells of the sink
  pub left_total : total (reaches_over layout frames sink (length frames)) ≡ total sink
  left_total = ap total reaches-left
