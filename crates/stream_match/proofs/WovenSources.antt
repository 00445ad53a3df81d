-- The sources of the cells of a plan over reaches.
use Rattle.std.proofs.Common.{◌≡◌, ℕ, suc, ◌+◌, ◌-◌, ◌<◌, ◌≤◌, List, [], ◌∷◌, ◌++◌, Option, Some, None, length, take, map, get_or, refl, sym, ap, ◌∙◌, subst, arith}
use Rattle.std.specs.Prelude.{slice_get, option_and_then}
use Rattle.std.specs.Option.{option_map_or}
use Rattle.std.specs.List.{flat_map, range_with_len}
use Rattle.std.proofs.lemmas.List.{map-append}
use Rattle.std.proofs.lemmas.List.Sums.{sum_by-cons}
use Rattle.flow_core_laws.specs.declared.plan.Piece.{Piece}
use Rattle.flow_core_laws.proofs.Stretches.{map-range-add, map-range-shift}
use Rattle.flow_core_laws.specs.declared.plan.Plan.{Plan}
use Rattle.flow_core_laws.specs.Element.{Source, initial, fed, nobody}
use Rattle.flow_core_laws.specs.Plans.{frame_at, held_at, piece_at, piece_source, cell_source, plan_reads}
use Rattle.flow_core_laws.proofs.Sources.{cell_source-covered, fed-covered}
use Rattle.flow_core_laws.specs.declared.elem.Elem.{Elem}
use Rattle.flow_core_laws.specs.declared.place.Place.{Place}
use Rattle.stream_match_layouts.specs.declared.layout.Layout.{Layout}
use Rattle.stream_match_layouts.specs.Writers.{writer_at}
use Rattle.stream_match_layouts.proofs.Windows.{map_map}
use Rattle.stream_match.specs.Weave.{Reach, no_reach, reach_places, total, with_frame, Weave, cells_of_first, reach_at, stretch_in, woven_pieces, IsWoven, WritesAt, CanWeave}
use Rattle.stream_match.proofs.Origins.{ordered_stands}
use Rattle.stream_match.proofs.Weaving.{cell-is, inputs-is, opening}
use Rattle.stream_match.proofs.WovenPieces.{woven_from, woven_stands, woven_place, covers_at, same_reach}
use Rattle.stream_match.proofs.WovenSound.{in_order, woven_sound}
use Rattle.stream_match.specs.Stretch.{piece_between, overlap_first, overlap_end}

-- the source of each cell, by the reaches in order
reads_reaches : (cell : ℕ → Source) (src : Place → Source) (rs : List Reach) (a : ℕ)
    → ((i k : ℕ) → i < length rs → k < (get_or rs i no_reach).count → cell (a + (total (take i rs) + k)) ≡ src (record { stream = (get_or rs i no_reach).stream; position = (get_or rs i no_reach).first + k }))
    → map cell (range_with_len a (total rs)) ≡ map src (flat_map reach_places rs)
reads_reaches cell src [] a each = refl
reads_reaches cell src (r ∷ rs) a each =
    let g : ℕ → Place = λ position. record { stream = r.stream; position = position } in
    ap (λ n. map cell (range_with_len a n)) (sum_by-cons (λ (x : Reach). x.count) r rs)
    ∙ map-range-add cell a r.count (total rs)
    ∙ ap (λ xs. xs ++ map cell (range_with_len (a + r.count) (total rs)))
    (map-range-shift cell (λ p. src (g p)) a r.first r.count (λ k l. ap cell (let e : a + k ≡ a + (0 + k) = omega arith in e) ∙ each 0 k (omega arith) l) ∙ sym (map_map g src (range_with_len r.first r.count)))
    ∙ ap (λ xs. map src (reach_places r) ++ xs)
    (reads_reaches cell src rs (a + r.count) (λ i k lt l. ap cell (let s : total (take (suc i) (r ∷ rs)) ≡ r.count + total (take i rs) = sum_by-cons (λ (x : Reach). x.count) r (take i rs) in let e : a + r.count + (total (take i rs) + k) ≡ a + (total (take (suc i) (r ∷ rs)) + k) = omega (arith, s) in e) ∙ each (suc i) k (omega arith) l))
    ∙ sym (map-append src (reach_places r) (flat_map reach_places rs))

module _ (layout : Layout) (weave : Weave) (can : CanWeave layout weave) (plan : Plan) (laid : IsWoven layout weave plan) where
  -- the number of a cell of a reach
  abbrev pub cell_of : ℕ → ℕ → ℕ → ℕ
  cell_of f i k = length (cells_of_first weave f) + (total (take i (weave.reaches f)) + k)

  -- a cell that holds something at opening is initial
  pub initial_by : (f i k : ℕ) (v : Elem) → f ≤ weave.frames → i < length (weave.reaches f) → k < (reach_at weave f i).count → weave.opening (reach_at weave f i).stream ((reach_at weave f i).first + k) ≡ Some v → cell_source plan (cell_of f i k) ≡ initial v
  unfolding cell_source
  initial_by f i k v le lt kl e = ap (λ o. option_map_or initial o (piece_source plan (cell_of f i k))) (opening layout weave plan laid f i k le lt kl ∙ e)

  -- a position that the write span of a frame covers is fed by it
  pub fed_by : (f i k place g : ℕ) → f ≤ weave.frames → i < length (weave.reaches f) → k < (reach_at weave f i).count → WritesAt layout weave (reach_at weave f i).stream ((reach_at weave f i).first + k) place g
      → cell_source plan (cell_of f i k) ≡ fed g ((writer_at layout (reach_at weave f i).stream place).offset + ((reach_at weave f i).first + k - (writer_at layout (reach_at weave f i).stream place).first))
  fed_by f i k place g le lt kl w =
      let stretch = stretch_in weave f i in
      let span = writer_at layout (reach_at weave f i).stream place in
      let q : Piece = piece_between stretch (with_frame g span) in
      let low = w.from in
      let high = w.to in
      let overlaps : overlap_first stretch span < overlap_end stretch span = omega arith in
      let all = woven_stands layout weave f i place g le lt w.within w.is_frame overlaps in
      let r = ordered_stands (woven_pieces layout weave) weave.frames (woven_place layout weave f i place) q all (can.numbers_exist span.frame g w.is_frame) in
      let at : slice_get plan.pieces r.0 ≡ Some q = ap (λ xs. slice_get xs r.0) laid.pieces ∙ r.1 in
      cell_source-covered plan r.0 (cell_of f i k) q (woven_sound layout weave can plan laid) at (omega arith) (omega arith)
      ∙ ap (fed g) (let e : q.first + (cell_of f i k - q.at) ≡ span.offset + ((reach_at weave f i).first + k - span.first) = omega arith in e)

  -- a cell that holds nothing at opening and that no piece covers comes from nobody
  from_nobody : (c : ℕ) → held_at plan.filled c ≡ None → ((number : ℕ) (p : Piece) → slice_get plan.pieces number ≡ Some p → p.at ≤ c → c < p.at + p.count → ⊥) → cell_source plan c ≡ nobody
  unfolding cell_source
  from_nobody c none free = by_piece (option_and_then (λ number. slice_get plan.pieces number) (piece_at plan c)) refl
    where
      source_is : (o : Option Piece) → option_and_then (λ number. slice_get plan.pieces number) (piece_at plan c) ≡ o → cell_source plan c ≡ option_map_or (λ (p : Piece). fed p.from (p.first + (c - p.at))) o nobody
      source_is o e = ap (λ v. option_map_or initial v (piece_source plan c)) none ∙ ap (λ p. option_map_or (λ (p : Piece). fed p.from (p.first + (c - p.at))) p nobody) e

      by_piece : (o : Option Piece) → option_and_then (λ number. slice_get plan.pieces number) (piece_at plan c) ≡ o → cell_source plan c ≡ nobody
      by_piece None e = source_is None e
      by_piece (Some p) e = let (number, q, q_is, low, high, from, place) = fed-covered plan c p.from (p.first + (c - p.at)) (source_is (Some p) e) in absurd (free number q q_is low high)

  -- and one whose position no write span of a frame covers
  pub nobody_by : (f i k : ℕ) → f ≤ weave.frames → i < length (weave.reaches f) → k < (reach_at weave f i).count → weave.opening (reach_at weave f i).stream ((reach_at weave f i).first + k) ≡ None
      → ((place g : ℕ) → WritesAt layout weave (reach_at weave f i).stream ((reach_at weave f i).first + k) place g → ⊥) → cell_source plan (cell_of f i k) ≡ nobody
  nobody_by f i k le lt kl e free = from_nobody (cell_of f i k) (opening layout weave plan laid f i k le lt kl ∙ e) (λ number p p_is low high.
      let r = in_order layout weave can plan laid number p p_is in
      let o = woven_from layout weave r.j p r.stands in
      let a = covers_at layout weave can r.j p o (cell_of f i k) low high in
      let same = same_reach layout weave can o.frame o.i a.k f i k o.within a.below lt kl (sym a.is) in
      free o.place o.writer
      (subst (λ n. WritesAt layout weave (reach_at weave f i).stream ((reach_at weave f i).first + n) o.place o.writer) same.place
      (subst (λ n. WritesAt layout weave (reach_at weave f n).stream ((reach_at weave f n).first + a.k) o.place o.writer) same.reach
      (subst (λ n. WritesAt layout weave (reach_at weave n o.i).stream ((reach_at weave n o.i).first + a.k) o.place o.writer) same.frame a.writes))))

  -- the sources of a frame's cells are those of its places
  pub woven_reads : (src : Place → Source) (f : ℕ) → f ≤ weave.frames
      → ((i k : ℕ) → i < length (weave.reaches f) → k < (reach_at weave f i).count → cell_source plan (cell_of f i k) ≡ src (record { stream = (reach_at weave f i).stream; position = (reach_at weave f i).first + k }))
      → plan_reads plan f ≡ map src (flat_map reach_places (weave.reaches f))
  woven_reads src f le each =
      ap (λ c. map (cell_source plan) (range_with_len c (frame_at plan f).inputs)) (cell-is layout weave plan laid f le)
      ∙ ap (λ n. map (cell_source plan) (range_with_len (length (cells_of_first weave f)) n)) (inputs-is layout weave plan laid f le)
      ∙ reads_reaches (cell_source plan) src (weave.reaches f) (length (cells_of_first weave f)) each
