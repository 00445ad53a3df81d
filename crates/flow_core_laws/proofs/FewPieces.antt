-- A sound plan has no more pieces than cells: each piece covers a cell, and no two cover the same.
use Rattle.std.proofs.Common.{◌≡◌, ◌≢◌, ℕ, suc, ◌<◌, ◌≤◌, List, [], ◌∷◌, Some, Bool, true, false, ◌||◌, map, length, get_or, sym, ap, subst, zero, ◌∙◌, refl, arith}
use Rattle.std.specs.Prelude.{slice_get, ◌==◌}
use Rattle.std.specs.List.{list_any}
use Rattle.std.proofs.lemmas.Bool.{eqb-true}
use Rattle.std.proofs.lemmas.List.{length-map}
use Rattle.std.proofs.lemmas.Map.Keys.{IsDistinct-from_apart}
use Rattle.std.proofs.lemmas.Map.Steps.{length-le_from_distinct_below}
use Rattle.flow_core_laws.specs.declared.plan.Piece.{Piece}
use Rattle.flow_core_laws.specs.declared.plan.Plan.{Plan}
use Rattle.flow_core_laws.specs.IsSound.{Covers, IsSound}

-- two numbers that differ are not equal by the test
pub other_test : (a b : ℕ) → a ≢ b → (a == b) ≡ false
other_test a b h = at (a == b) refl
  where
    at : (t : Bool) → (a == b) ≡ t → (a == b) ≡ false
    at true e = absurd (h (eqb-true a b e))
    at false e = e

-- the first cells of pieces
abbrev firsts : List Piece → List ℕ
firsts pieces = map (λ (p : Piece). p.at) pieces

-- each of them lies below what they all lie below
firsts_below : (pieces : List Piece) (n : ℕ) → ((i : ℕ) (p : Piece) → slice_get pieces i ≡ Some p → p.at < n) → (q : ℕ) → list_any (λ c. q == c) (firsts pieces) ≡ true → q < n
firsts_below [] n below q found = absurd (cc)
firsts_below (p ∷ pieces) n below q found = by_test (firsts_below pieces n (λ i r is. below (suc i) r is) q) (q == p.at) refl
  where
    by_test : (list_any (λ c. q == c) (firsts pieces) ≡ true → q < n) → (t : Bool) → (q == p.at) ≡ t → q < n
    by_test behind true e = omega (arith, eqb-true q p.at e, below 0 p refl)
    by_test behind false e = behind (sym (ap (λ t. t || list_any (λ c. q == c) (firsts pieces)) e) ∙ found)

-- the first cell of the piece of a number
first_at : (pieces : List Piece) (i d : ℕ) → i < length pieces → (p : Piece) × (slice_get pieces i ≡ Some p) × (get_or (firsts pieces) i d ≡ p.at)
first_at [] i d lt = absurd (omega arith)
first_at (p ∷ pieces) zero d lt = (p, refl, refl)
first_at (p ∷ pieces) (suc i) d lt = first_at pieces i d (omega arith)

-- the first cell of a piece is covered by it
covers_first : (plan : Plan) → IsSound plan → (i : ℕ) (p : Piece) → slice_get plan.pieces i ≡ Some p → Covers plan i p.at
covers_first plan sound i p is = (p, is, omega arith, omega (arith, (sound.pieces_are_sound i p is).has_elements))

-- no two pieces begin at one cell
apart : (plan : Plan) → IsSound plan → (i j d : ℕ) → i < j → j < length (firsts plan.pieces) → (get_or (firsts plan.pieces) i d == get_or (firsts plan.pieces) j d) ≡ false
apart plan sound i j d lt within =
    let few = length-map plan.pieces (λ (p : Piece). p.at) in
    let (p, p_is, p_at) = first_at plan.pieces i d (omega arith) in
    let (q, q_is, q_at) = first_at plan.pieces j d (omega arith) in
    other_test _ _ (λ (same : get_or (firsts plan.pieces) i d ≡ get_or (firsts plan.pieces) j d). absurd (omega (arith, sound.pieces_are_apart i j q.at (subst (Covers plan i) (sym p_at ∙ same ∙ q_at) (covers_first plan sound i p p_is)) (covers_first plan sound j q q_is))))

pub few_pieces : (plan : Plan) → IsSound plan → length plan.pieces ≤ length plan.filled
few_pieces plan sound = omega (arith, length-map plan.pieces (λ (p : Piece). p.at), length-le_from_distinct_below (firsts plan.pieces) (length plan.filled) (IsDistinct-from_apart (λ a b. a == b) (firsts plan.pieces) (apart plan sound)) (firsts_below plan.pieces (length plan.filled) within))
  where
    within : (i : ℕ) (p : Piece) → slice_get plan.pieces i ≡ Some p → p.at < length plan.filled
    within i p is =
        let piece = sound.pieces_are_sound i p is in
        omega (arith, piece.has_elements, piece.fills_to_its_cells, sound.cells_exist p.to piece.goes_to_a_frame)
