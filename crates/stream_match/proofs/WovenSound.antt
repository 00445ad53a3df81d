-- A plan over reaches is sound.
use Rattle.std.proofs.Common.{◌≡◌, ℕ, ◌+◌, ◌<◌, ◌≤◌, List, Some, None, length, take, sym, ap, ◌∙◌, subst, ◌⊎◌, inl, inr, arith, get_or, [], ◌∷◌, map, refl}
use Rattle.std.specs.Prelude.{slice_get, sum_by, ◌↔◌}
use Rattle.std.specs.List.{range_with_len}
use Rattle.std.proofs.lemmas.Bool.{cases_lt, cases_order}
use Rattle.std.proofs.lemmas.List.Sums.{sum_by_more_le, sum_by-cons}
use Rattle.std.proofs.lemmas.Option.{same_Some}
use Rattle.flow_core_laws.specs.declared.plan.FramePlan.{FramePlan}
use Rattle.flow_core_laws.specs.declared.plan.Piece.{Piece}
use Rattle.std.proofs.lemmas.List.{get_or_default}
use Rattle.flow_core_laws.specs.declared.plan.Plan.{Plan}
use Rattle.flow_core_laws.specs.Plans.{frame_at, held_at, number_at}
use Rattle.flow_core_laws.specs.IsSound.{HasCell, Covers, IsSoundPiece, IsSound}
use Rattle.stream_match_layouts.specs.declared.layout.Layout.{Layout}
use Rattle.stream_match_layouts.specs.Writers.{writer_at}
use Rattle.stream_match.specs.Stretch.{pieces_from, by_frame}
use Rattle.stream_match.proofs.Placed.{length-by_frame-le}
use Rattle.stream_match.proofs.Origins.{Ordered, ordered}
use Rattle.stream_match.specs.Weave.{Weave, reach_at, woven_frame, woven_pieces, IsWoven, WritesAt, CanWeave}
use Rattle.stream_match.proofs.Weaving.{first-next, length-frames, frame_at-frame, frame_at-sink, cell-is, inputs-is, length-filled, opening, waits}
use Rattle.stream_match.proofs.WovenPieces.{woven_from, woven_place, covers_at, reach_within, same_reach, one_writer}

pub sum_by-map : {A B : Type 0} (h : B → ℕ) (g : A → B) (xs : List A) → sum_by h (map g xs) ≡ sum_by (λ x. h (g x)) xs
sum_by-map h g [] = refl
sum_by-map h g (x ∷ xs) = sum_by-cons h (g x) (map g xs) ∙ ap (λ n. h (g x) + n) (sum_by-map h g xs) ∙ sym (sum_by-cons (λ y. h (g y)) x xs)

module _ (layout : Layout) (weave : Weave) (can : CanWeave layout weave) (plan : Plan) (laid : IsWoven layout weave plan) where
  frames-are : length plan.frames ≡ weave.frames
  frames-are = length-frames layout weave plan laid

  -- ---- cells

  cells_exist : (f : ℕ) → f ≤ length plan.frames → (frame_at plan f).cell + (frame_at plan f).inputs ≤ length plan.filled
  cells_exist f le =
      let n = frames-are in
      let c = cell-is layout weave plan laid f (omega (arith, n)) in
      let i = inputs-is layout weave plan laid f (omega (arith, n)) in
      omega (arith, c, i, first-next weave f (weave.frames + 1) (omega (arith, n)), length-filled layout weave plan laid)

  cells_below : (f g c : ℕ) → f < g → g ≤ length plan.frames → HasCell plan f c → HasCell plan g c → ⊥
  cells_below f g c less le has_f has_g =
      let n = frames-are in
      let a = cell-is layout weave plan laid f (omega (arith, n)) in
      let i = inputs-is layout weave plan laid f (omega (arith, n)) in
      let b = cell-is layout weave plan laid g (omega (arith, n)) in
      absurd (omega (arith, a, i, b, first-next weave f g less, has_f.1, has_g.0))

  cells_are_apart : (f g c : ℕ) → f ≤ length plan.frames → g ≤ length plan.frames → HasCell plan f c → HasCell plan g c → f ≡ g
  cells_are_apart f g c f_le g_le has_f has_g = elim (cases_order f g) [
    | inl same ↦ same
    | inr d ↦ elim d [ inl less ↦ absurd (cells_below f g c less g_le has_f has_g) | inr more ↦ absurd (cells_below g f c more f_le has_g has_f) ]
  ]

  -- ---- outputs

  all_outputs_are_few : sum_by (λ (x : FramePlan). x.outputs) plan.frames ≤ 4194304
  all_outputs_are_few =
      let e = ap (sum_by (λ (x : FramePlan). x.outputs)) laid.frames ∙ sum_by-map (λ (x : FramePlan). x.outputs) (woven_frame layout weave) (range_with_len 0 weave.frames) in
      let few = can.outputs_are_few in
      omega (arith, e)

  outputs_are_few : (f : ℕ) → f ≤ length plan.frames → (frame_at plan f).outputs ≤ 4194304
  outputs_are_few f le = elim (cases_lt f (length plan.frames)) [
    | inl lt ↦ omega (arith, sum_by_more_le (λ (x : FramePlan). x.outputs) plan.frames f plan.sink lt, all_outputs_are_few)
    | inr ge ↦ omega (arith, ap (λ (x : FramePlan). x.outputs) (frame_at-sink layout weave plan laid f (omega (arith, frames-are))))
  ]

  -- ---- numbers

  number-is : (f : ℕ) → f < weave.frames → number_at plan f ≡ get_or weave.activations f 0
  number-is f lt = ap (λ (numbers : List ℕ). get_or numbers f f) laid.numbers ∙ get_or_default weave.activations f f 0 (let n = can.activations_are_of_frames in omega (arith, n))

  numbers_ascend : (f g : ℕ) → f < g → g < length plan.frames → number_at plan f < number_at plan g
  numbers_ascend f g less lt =
      let n = frames-are in
      let a = number-is f (omega (arith, n)) in
      let b = number-is g (omega (arith, n)) in
      let c = can.activations_ascend f g less (omega (arith, n)) in
      omega (arith, a, b, c)

  -- ---- pieces

  pub in_order : (number : ℕ) (p : Piece) → slice_get plan.pieces number ≡ Some p → Ordered (woven_pieces layout weave) weave.frames number p
  in_order number p h = ordered (woven_pieces layout weave) weave.frames number p (ap (λ xs. slice_get xs number) (sym laid.pieces) ∙ h)

  piece_is_sound : (number : ℕ) (p : Piece) → slice_get plan.pieces number ≡ Some p → IsSoundPiece plan p
  piece_is_sound number p h =
      let n = frames-are in
      let r = in_order number p h in
      let o = woven_from layout weave r.j p r.stands in
      let at = ap (λ (q : Piece). q.at) o.is in
      let count = ap (λ (q : Piece). q.count) o.is in
      let first = ap (λ (q : Piece). q.first) o.is in
      let to : p.to ≡ o.frame = ap (λ (q : Piece). q.to) o.is in
      let from : p.from ≡ o.writer = ap (λ (q : Piece). q.from) o.is in
      let v = o.overlaps in
      let goes = o.exists in
      let comes = r.from in
      let outputs : (frame_at plan p.from).outputs ≡ weave.outputs p.from = ap (λ (x : FramePlan). x.outputs) (frame_at-frame layout weave plan laid p.from r.from) in
      let fits = subst (λ g. (writer_at layout (reach_at weave o.frame o.i).stream o.place).offset + (writer_at layout (reach_at weave o.frame o.i).stream o.place).count ≤ weave.outputs g) (sym from) (can.outputs_fit o.frame o.i o.place o.writer o.exists o.within o.stands o.numbered) in
      let cell = cell-is layout weave plan laid o.frame o.exists in
      let inputs = inputs-is layout weave plan laid o.frame o.exists in
      let within = reach_within layout weave can o.frame o.i o.within in
      record {
        comes_from_a_frame = omega (arith, n);
        goes_to_a_frame = omega (arith, to, n);
        has_elements = omega (arith, count);
        takes_outputs = omega (arith, outputs, fits, first, count);
        fills_from_its_cells = subst (λ x. (frame_at plan x).cell ≤ p.at) (sym to) (omega (arith, at, cell));
        fills_to_its_cells = subst (λ x. p.at + p.count ≤ (frame_at plan x).cell + (frame_at plan x).inputs) (sym to) (omega (arith, at, count, cell, inputs, within));
      }

  pieces_exist : (f : ℕ) → f ≤ length plan.frames → (frame_at plan f).piece + (frame_at plan f).pieces ≤ length plan.pieces
  pieces_exist f le =
      let n = frames-are in
      let len = ap length laid.pieces in
      elim (cases_lt f weave.frames) [
        | inl lt ↦ (let x = frame_at-frame layout weave plan laid f lt in omega (arith, len, ap (λ (y : FramePlan). y.piece) x, ap (λ (y : FramePlan). y.pieces) x, length-by_frame-le (woven_pieces layout weave) f weave.frames lt))
        | inr ge ↦ (let x = frame_at-sink layout weave plan laid f ge in omega (arith, len, ap (λ (y : FramePlan). y.piece) x, ap (λ (y : FramePlan). y.pieces) x))
      ]

  together : (f number : ℕ) (p : Piece) → f ≤ length plan.frames → slice_get plan.pieces number ≡ Some p → (p.from ≡ f) ↔ (((frame_at plan f).piece ≤ number) × (number < (frame_at plan f).piece + (frame_at plan f).pieces))
  together f number p le h = elim (cases_lt f weave.frames) [
    | inl lt ↦ (let x = frame_at-frame layout weave plan laid f lt in let a = ap (λ (y : FramePlan). y.piece) x in let b = ap (λ (y : FramePlan). y.pieces) x in (
      (λ e. let at : number ≡ length (by_frame all f) + length (pieces_from (take r.j all) f) = subst (λ g. number ≡ length (by_frame all g) + length (pieces_from (take r.j all) g)) e r.at in let below : length (pieces_from (take r.j all) f) < length (pieces_from all f) = subst (λ g. length (pieces_from (take r.j all) g) < length (pieces_from all g)) e r.below in (omega (arith, a, at), omega (arith, a, b, at, below))),
      (λ (low, high). decide (cases_order p.from f) (omega (arith, a)) (omega (arith, a, b))),
    ))
    | inr ge ↦ (let x = frame_at-sink layout weave plan laid f ge in let a = ap (λ (y : FramePlan). y.piece) x in let b = ap (λ (y : FramePlan). y.pieces) x in
        ((λ e. let from = r.from in absurd (omega arith)), (λ (low, high). absurd (omega (arith, a, b)))))
  ]
    where
      all : List Piece
      all = woven_pieces layout weave

      r : Ordered (woven_pieces layout weave) weave.frames number p
      r = in_order number p h

      decide : (p.from ≡ f) ⊎ ((p.from < f) ⊎ (f < p.from)) → length (by_frame (woven_pieces layout weave) f) ≤ number → number < length (by_frame (woven_pieces layout weave) f) + length (pieces_from (woven_pieces layout weave) f) → p.from ≡ f
      decide (inl same) low high = same
      decide (inr (inl less)) low high = let at = (in_order number p h).at in let below = (in_order number p h).below in absurd (omega (arith, length-by_frame-le (woven_pieces layout weave) p.from f less))
      decide (inr (inr more)) low high = let at = (in_order number p h).at in absurd (omega (arith, length-by_frame-le (woven_pieces layout weave) f p.from more))

  -- no two pieces share a cell
  one_piece : (i j c : ℕ) (p q : Piece) → slice_get (woven_pieces layout weave) i ≡ Some p → slice_get (woven_pieces layout weave) j ≡ Some q → p.at ≤ c → c < p.at + p.count → q.at ≤ c → c < q.at + q.count → i ≡ j
  one_piece i j c p q p_is q_is p_low p_high q_low q_high =
      let o = woven_from layout weave i p p_is in
      let r = woven_from layout weave j q q_is in
      let a = covers_at layout weave can i p o c p_low p_high in
      let b = covers_at layout weave can j q r c q_low q_high in
      let same = same_reach layout weave can o.frame o.i a.k r.frame r.i b.k o.within a.below r.within b.below (sym a.is ∙ b.is) in
      let w : WritesAt layout weave (reach_at weave r.frame r.i).stream ((reach_at weave r.frame r.i).first + b.k) o.place o.writer =
      subst (λ n. WritesAt layout weave (reach_at weave r.frame r.i).stream ((reach_at weave r.frame r.i).first + n) o.place o.writer) same.place
      (subst (λ n. WritesAt layout weave (reach_at weave r.frame n).stream ((reach_at weave r.frame n).first + a.k) o.place o.writer) same.reach
      (subst (λ n. WritesAt layout weave (reach_at weave n o.i).stream ((reach_at weave n o.i).first + a.k) o.place o.writer) same.frame a.writes)) in
      let v = b.writes in
      let place : o.place ≡ r.place = one_writer layout weave can (reach_at weave r.frame r.i).stream o.place r.place ((reach_at weave r.frame r.i).first + b.k) (can.have_writers r.frame r.i r.exists r.within) w.within v.within w.from w.to v.from v.to in
      o.at ∙ ap (λ n. woven_place layout weave n o.i o.place) same.frame ∙ ap (λ n. woven_place layout weave r.frame n o.place) same.reach ∙ ap (woven_place layout weave r.frame r.i) place ∙ sym r.at

  pieces_are_apart : (i j c : ℕ) → Covers plan i c → Covers plan j c → i ≡ j
  pieces_are_apart i j c (p, p_is, p_low, p_high) (q, q_is, q_low, q_high) =
      let a = in_order i p p_is in
      let b = in_order j q q_is in
      let all = woven_pieces layout weave in
      let index : a.j ≡ b.j = one_piece a.j b.j c p q a.stands b.stands p_low p_high q_low q_high in
      let same : p ≡ q = same_Some p q (sym a.stands ∙ ap (slice_get (woven_pieces layout weave)) index ∙ b.stands) in
      a.at ∙ ap (λ n. length (by_frame (woven_pieces layout weave) p.from) + length (pieces_from (take n (woven_pieces layout weave)) p.from)) index
      ∙ ap (λ (r : Piece). length (by_frame (woven_pieces layout weave) r.from) + length (pieces_from (take b.j (woven_pieces layout weave)) r.from)) same ∙ sym b.at

  spares : (number c : ℕ) → Covers plan number c → held_at plan.filled c ≡ None
  spares number c (p, p_is, low, high) =
      let r = in_order number p p_is in
      let o = woven_from layout weave r.j p r.stands in
      let a = covers_at layout weave can r.j p o c low high in
      ap (held_at plan.filled) a.is
      ∙ opening layout weave plan laid o.frame o.i a.k o.exists o.within a.below
      ∙ can.spares o.frame o.i ((reach_at weave o.frame o.i).first + a.k) o.place o.writer o.exists o.within a.writes

  pub woven_sound : IsSound plan
  woven_sound = record {
    frames_are_few = let few = can.frames_are_few in omega (arith, frames-are);
    cells_are_few = let few = can.cells_are_few in omega (arith, length-filled layout weave plan laid);
    outputs_are_few = outputs_are_few;
    all_outputs_are_few = all_outputs_are_few;
    numbers_are_of_frames = ap length laid.numbers ∙ can.activations_are_of_frames ∙ sym frames-are;
    numbers_ascend = numbers_ascend;
    cells_exist = cells_exist;
    cells_are_apart = cells_are_apart;
    wait_counts = λ f le. waits layout weave plan laid f (omega (arith, frames-are));
    pieces_are_sound = piece_is_sound;
    pieces_exist = pieces_exist;
    pieces_stand_together = together;
    pieces_are_apart = pieces_are_apart;
    pieces_spare_the_filled = spares;
  }
