-- From which frame, reach and write span each piece comes.
use Rattle.std.proofs.Common.{◌≡◌, ℕ, zero, suc, ◌+◌, ◌-◌, ◌<◌, ◌≤◌, Bool, true, false, cond, List, [], ◌∷◌, Option, Some, None, length, take, refl, sym, ap, ◌∙◌, subst, inl, inr, arith}
use Rattle.std.specs.Prelude.{slice_get, nat_lt}
use Rattle.std.specs.Option.{option_map_or}
use Rattle.std.proofs.lemmas.Bool.{cases_order, ltb-true, lt-ltb}
use Rattle.std.proofs.lemmas.Option.{same_Some}
use Rattle.flow_core_laws.specs.declared.plan.Piece.{Piece}
use Rattle.flow_core_laws.proofs.Stretches.{stands_in, stands_at, parts_before}
use Rattle.stream_match_layouts.specs.declared.span.Span.{Span}
use Rattle.stream_match_layouts.specs.declared.layout.Layout.{Layout}
use Rattle.stream_match_layouts.specs.Writers.{writers_on, writer_at, end_of, HasWriters}
use Rattle.stream_match.specs.declared.stretch.Stretch.{Stretch}
use Rattle.stream_match.specs.Stretch.{overlap_first, overlap_end, piece_between, overlap}
use Rattle.stream_match.specs.Weave.{total, with_frame, Weave, cells_of_first, reach_at, stretch_in, overlap_among, pieces_among, frame_pieces, woven_pieces, WritesAt, CanWeave}
use Rattle.stream_match.proofs.Weaving.{total-more, total-le, total-take-le, first-next}

-- the pieces from a place into a stretch, and those into a reach of a frame
abbrev pub from_place : Layout → Weave → Stretch → ℕ → List Piece
from_place layout weave stretch place = overlap_among weave stretch (writer_at layout stretch.stream place)

abbrev pub into_reach : Layout → Weave → ℕ → ℕ → List Piece
into_reach layout weave f i = pieces_among layout weave (stretch_in weave f i)

-- The place among all pieces of the one from a place into a reach.
abbrev pub woven_place : Layout → Weave → ℕ → ℕ → ℕ → ℕ
woven_place layout weave f i place =
    length (parts_before (frame_pieces layout weave) 0 f) + (length (parts_before (into_reach layout weave f) 0 i) + (length (parts_before (from_place layout weave (stretch_in weave f i)) 0 place) + 0))

-- A piece by its frame, its reach and its write span.
pub record WovenFrom (layout : Layout) (weave : Weave) (j : ℕ) (q : Piece) : Type 0 where
  pub frame : ℕ
  pub i : ℕ
  pub place : ℕ
  pub writer : ℕ
  pub exists : frame ≤ weave.frames
  pub within : i < length (weave.reaches frame)
  pub stands : place < length (writers_on layout (reach_at weave frame i).stream)
  pub numbered : weave.number (writer_at layout (reach_at weave frame i).stream place).frame ≡ Some writer
  pub overlaps : overlap_first (stretch_in weave frame i) (writer_at layout (reach_at weave frame i).stream place) < overlap_end (stretch_in weave frame i) (writer_at layout (reach_at weave frame i).stream place)
  pub is : q ≡ piece_between (stretch_in weave frame i) (with_frame writer (writer_at layout (reach_at weave frame i).stream place))
  pub at : j ≡ woven_place layout weave frame i place

-- the one piece of an overlap
pub record TheOne (weave : Weave) (stretch : Stretch) (span : Span) (n : ℕ) (q : Piece) : Type 0 where
  pub writer : ℕ
  pub numbered : weave.number span.frame ≡ Some writer
  pub first : n ≡ 0
  pub overlaps : overlap_first stretch span < overlap_end stretch span
  pub is : q ≡ piece_between stretch (with_frame writer span)

the_one : (weave : Weave) (stretch : Stretch) (span : Span) (n : ℕ) (q : Piece) → slice_get (overlap_among weave stretch span) n ≡ Some q → TheOne weave stretch span n q
the_one weave stretch span n q h = by_number (weave.number span.frame) refl h
  where
    head : (g : ℕ) (n : ℕ) → slice_get (piece_between stretch (with_frame g span) ∷ []) n ≡ Some q → (n ≡ 0) × (q ≡ piece_between stretch (with_frame g span))
    head g zero e = (refl, sym (same_Some (piece_between stretch (with_frame g span)) q e))
    head g (suc n) e = absurd (cc)

    by_test : (g : ℕ) → weave.number span.frame ≡ Some g → (b : Bool) → nat_lt (overlap_first stretch span) (overlap_end stretch span) ≡ b → slice_get (cond b (piece_between stretch (with_frame g span) ∷ []) []) n ≡ Some q → TheOne weave stretch span n q
    by_test g numbered true e at = let r = head g n at in record { writer = g; numbered = numbered; first = r.0; overlaps = ltb-true _ _ e; is = r.1 }
    by_test g numbered false e at = absurd (cc)

    by_number : (o : Option ℕ) → weave.number span.frame ≡ o → slice_get (option_map_or (λ f. overlap stretch (with_frame f span)) o []) n ≡ Some q → TheOne weave stretch span n q
    by_number None e at = absurd (cc)
    by_number (Some g) e at = by_test g e (nat_lt (overlap_first stretch span) (overlap_end stretch span)) refl at

pub woven_from : (layout : Layout) (weave : Weave) (j : ℕ) (q : Piece) → slice_get (woven_pieces layout weave) j ≡ Some q → WovenFrom layout weave j q
unfolding woven_pieces
woven_from layout weave j q h =
    let s = stands_in (frame_pieces layout weave) 0 (weave.frames + 1) j q h in
    let t = stands_in (into_reach layout weave s.part) 0 (length (weave.reaches s.part)) s.place q s.at in
    let stretch = stretch_in weave s.part t.part in
    let u = stands_in (from_place layout weave stretch) 0 (length (writers_on layout stretch.stream)) t.place q t.at in
    let one = the_one weave stretch (writer_at layout stretch.stream u.part) u.place q u.at in
    record {
      frame = s.part;
      i = t.part;
      place = u.part;
      writer = one.writer;
      exists = let e = s.high in omega arith;
      within = let e = t.high in omega arith;
      stands = let e = u.high in omega arith;
      numbered = one.numbered;
      overlaps = one.overlaps;
      is = one.is;
      at = let a = s.behind in let b = t.behind in let c = u.behind in let z = one.first in omega arith;
    }

-- and the other way round
pub woven_stands : (layout : Layout) (weave : Weave) (f i place g : ℕ) → f ≤ weave.frames → i < length (weave.reaches f) → place < length (writers_on layout (reach_at weave f i).stream)
    → weave.number (writer_at layout (reach_at weave f i).stream place).frame ≡ Some g
    → overlap_first (stretch_in weave f i) (writer_at layout (reach_at weave f i).stream place) < overlap_end (stretch_in weave f i) (writer_at layout (reach_at weave f i).stream place)
    → slice_get (woven_pieces layout weave) (woven_place layout weave f i place) ≡ Some (piece_between (stretch_in weave f i) (with_frame g (writer_at layout (reach_at weave f i).stream place)))
unfolding woven_pieces
woven_stands layout weave f i place g le lt place_lt numbered overlaps =
    let stretch = stretch_in weave f i in
    let span = writer_at layout stretch.stream place in
    let q = piece_between stretch (with_frame g span) in
    let one : slice_get (from_place layout weave stretch place) 0 ≡ Some q = ap (λ o. slice_get (option_map_or (λ f. overlap stretch (with_frame f span)) o []) 0) numbered ∙ ap (λ b. slice_get (cond b (q ∷ []) []) 0) (lt-ltb _ _ overlaps) in
    stands_at (frame_pieces layout weave) 0 (weave.frames + 1) f (length (parts_before (into_reach layout weave f) 0 i) + (length (parts_before (from_place layout weave stretch) 0 place) + 0)) q (omega arith) (omega arith)
    (stands_at (into_reach layout weave f) 0 (length (weave.reaches f)) i (length (parts_before (from_place layout weave stretch) 0 place) + 0) q (omega arith) (omega arith)
    (stands_at (from_place layout weave stretch) 0 (length (writers_on layout stretch.stream)) place 0 q (omega arith) (omega arith) one))

-- ---- one cell

module _ (layout : Layout) (weave : Weave) (can : CanWeave layout weave) where
  -- a cell lies in one frame
  pub one_frame : (f g c : ℕ) → length (cells_of_first weave f) ≤ c → c < length (cells_of_first weave f) + total (weave.reaches f) → length (cells_of_first weave g) ≤ c → c < length (cells_of_first weave g) + total (weave.reaches g) → f ≡ g
  one_frame f g c f_low f_high g_low g_high = elim (cases_order f g) [
    | inl same ↦ same
    | inr d ↦ elim d [
      | inl less ↦ absurd (omega (arith, first-next weave f g less))
      | inr more ↦ absurd (omega (arith, first-next weave g f more))
    ]
  ]

  -- the cells of a reach lie among those of its frame
  pub reach_within : (f i : ℕ) → i < length (weave.reaches f) → total (take i (weave.reaches f)) + (reach_at weave f i).count ≤ total (weave.reaches f)
  reach_within f i lt = omega (arith, total-more (weave.reaches f) i lt, total-take-le (weave.reaches f) (i + 1))

  -- and there in one reach
  pub one_reach : (f i k m : ℕ) → i < length (weave.reaches f) → k < length (weave.reaches f) → total (take i (weave.reaches f)) ≤ m → m < total (take i (weave.reaches f)) + (reach_at weave f i).count
      → total (take k (weave.reaches f)) ≤ m → m < total (take k (weave.reaches f)) + (reach_at weave f k).count → i ≡ k
  one_reach f i k m i_lt k_lt i_low i_high k_low k_high = elim (cases_order i k) [
    | inl same ↦ same
    | inr d ↦ elim d [
      | inl less ↦ absurd (omega (arith, total-more (weave.reaches f) i i_lt, total-le (weave.reaches f) (i + 1) k (omega arith)))
      | inr more ↦ absurd (omega (arith, total-more (weave.reaches f) k k_lt, total-le (weave.reaches f) (k + 1) i (omega arith)))
    ]
  ]

  -- a position lies in one write span
  pub one_writer : (stream i k p : ℕ) → HasWriters layout stream → i < length (writers_on layout stream) → k < length (writers_on layout stream) → (writer_at layout stream i).first ≤ p → p < end_of (writer_at layout stream i) → (writer_at layout stream k).first ≤ p → p < end_of (writer_at layout stream k) → i ≡ k
  one_writer stream i k p has i_lt k_lt i_low i_high k_low k_high = elim (cases_order i k) [
    | inl same ↦ same
    | inr d ↦ elim d [
      | inl less ↦ (let o = has.in_order i k less k_lt in absurd (omega arith))
      | inr more ↦ (let o = has.in_order k i more i_lt in absurd (omega arith))
    ]
  ]

  -- A piece covers a cell: the cell's place in the reach, and that the write span covers its position.
  pub record CoversAt (f i c place g : ℕ) : Type 0 where
    pub k : ℕ
    pub below : k < (reach_at weave f i).count
    pub is : c ≡ length (cells_of_first weave f) + (total (take i (weave.reaches f)) + k)
    pub writes : WritesAt layout weave (reach_at weave f i).stream ((reach_at weave f i).first + k) place g

  pub covers_at : (j : ℕ) (q : Piece) (o : WovenFrom layout weave j q) (c : ℕ) → q.at ≤ c → c < q.at + q.count → CoversAt o.frame o.i c o.place o.writer
  covers_at j q o c low high =
      let a = ap (λ (p : Piece). p.at) o.is in
      let n = ap (λ (p : Piece). p.count) o.is in
      let v = o.overlaps in
      record {
        k = c - (length (cells_of_first weave o.frame) + total (take o.i (weave.reaches o.frame)));
        below = omega arith;
        is = omega arith;
        writes = record { within = o.stands; from = omega arith; to = omega arith; is_frame = o.numbered };
      }

  -- the same cell, the same reach
  pub record SameReach (f i k g l m : ℕ) : Type 0 where
    pub frame : f ≡ g
    pub reach : i ≡ l
    pub place : k ≡ m

  pub same_reach : (f i k g l m : ℕ) → i < length (weave.reaches f) → k < (reach_at weave f i).count → l < length (weave.reaches g) → m < (reach_at weave g l).count
      → length (cells_of_first weave f) + (total (take i (weave.reaches f)) + k) ≡ length (cells_of_first weave g) + (total (take l (weave.reaches g)) + m) → SameReach f i k g l m
  same_reach f i k g l m i_lt k_lt l_lt m_lt same =
      let a = reach_within f i i_lt in
      let b = reach_within g l l_lt in
      let frame : f ≡ g = one_frame f g (length (cells_of_first weave f) + (total (take i (weave.reaches f)) + k)) (omega arith) (omega arith) (omega arith) (omega arith) in
      in_frame frame i_lt k_lt same
    where
      in_frame : f ≡ g → i < length (weave.reaches f) → k < (reach_at weave f i).count → length (cells_of_first weave f) + (total (take i (weave.reaches f)) + k) ≡ length (cells_of_first weave g) + (total (take l (weave.reaches g)) + m) → SameReach f i k g l m
      in_frame frame i_in k_in cells =
          let i_lt' : i < length (weave.reaches g) = subst (λ h. i < length (weave.reaches h)) frame i_in in
          let k_lt' : k < (reach_at weave g i).count = subst (λ h. k < (reach_at weave h i).count) frame k_in in
          let cells' : length (cells_of_first weave g) + (total (take i (weave.reaches g)) + k) ≡ length (cells_of_first weave g) + (total (take l (weave.reaches g)) + m) = subst (λ h. length (cells_of_first weave h) + (total (take i (weave.reaches h)) + k) ≡ length (cells_of_first weave g) + (total (take l (weave.reaches g)) + m)) frame cells in
          let reach : i ≡ l = one_reach g i l (total (take i (weave.reaches g)) + k) i_lt' l_lt (omega arith) (omega arith) (omega arith) (omega arith) in
          let t = ap (λ h. total (take h (weave.reaches g))) reach in
          record { frame = frame; reach = reach; place = omega arith }
