-- The source of a cell of a sound plan, and the pieces.
use Rattle.std.proofs.Common.{[], map, ◌≡◌, ℕ, ◌+◌, ◌-◌, ◌<◌, ◌≤◌, List, ◌∷◌, Option, Some, None, refl, sym, ap, ◌∙◌, zero, suc, Bool, true, false, cond, length, get_or, subst, arith}
use Rattle.std.specs.Prelude.{slice_get, option_and_then, find, nat_lt}
use Rattle.std.specs.Option.{option_map_or}
use Rattle.std.proofs.lemmas.List.Quantifiers.{position-Some}
use Rattle.std.proofs.lemmas.Option.{get_or_from_slice_get, same_Some, slice_get_within, slice_get-get_or}
use Rattle.flow_core_laws.specs.declared.plan.Piece.{Piece}
use Rattle.flow_core_laws.specs.Plans.{is_covered_by, held_at, piece_at, piece_source, cell_source}
use Rattle.flow_core_laws.specs.declared.elem.Elem.{Elem}
use Rattle.flow_core_laws.specs.declared.plan.Plan.{Plan}
use Rattle.flow_core_laws.specs.Element.{Source, initial, fed, nobody}
use Rattle.flow_core_laws.specs.IsSound.{IsSound}
use Rattle.std.specs.List.{position, position_or_len}
use Rattle.std.proofs.lemmas.List.Sums.{position_or_len_is}
use Rattle.std.proofs.lemmas.Bool.{lt-ltb}
use Rattle.std.proofs.lemmas.Bool.Decides.{nat_tests}

-- what a search finds stands somewhere and passes
pub find_passes : {A : Type 0} (test : A → Bool) (xs : List A) (x : A) → find test xs ≡ Some x → (i : ℕ) × (slice_get xs i ≡ Some x) × (test x ≡ true)
find_passes test [] x h = absurd (cc)
find_passes {A = A} test (y ∷ ys) x h = at_head (test y) refl h (find_passes test ys x)
  where
    at_head : (b : Bool) → test y ≡ b → cond b (Some y) (find test ys) ≡ Some x → (find test ys ≡ Some x → (i : ℕ) × (slice_get ys i ≡ Some x) × (test x ≡ true)) → (i : ℕ) × (slice_get (y ∷ ys) i ≡ Some x) × (test x ≡ true)
    at_head true e h rest = let s = same_Some y x h in (0, h, subst (λ (z : A). test z ≡ true) s e)
    at_head false e h rest = let (i, at, passes) = rest h in (suc i, at, passes)

-- the one element that passes is found
pub find_only : {A : Type 0} (test : A → Bool) (xs : List A) (i : ℕ) (x : A) → slice_get xs i ≡ Some x → test x ≡ true → ((j : ℕ) (y : A) → slice_get xs j ≡ Some y → test y ≡ true → j ≡ i) → find test xs ≡ Some x
find_only test [] i x at passes only = absurd (cc)
find_only {A = A} test (y ∷ ys) zero x at passes only = let s = same_Some y x at in ap (λ (b : Bool). cond b (Some y) (find test ys)) (ap test s ∙ passes) ∙ at
find_only {A = A} test (y ∷ ys) (suc i) x at passes only = at_head (test y) refl (find_only test ys i x at passes (λ j z z_at z_passes. let e = only (suc j) z z_at z_passes in omega arith))
  where
    at_head : (b : Bool) → test y ≡ b → find test ys ≡ Some x → cond (test y) (Some y) (find test ys) ≡ Some x
    at_head true e rest = let z : 0 ≡ suc i = only 0 y refl e in absurd (omega arith)
    at_head false e rest = ap (λ (b : Bool). cond b (Some y) (find test ys)) e ∙ rest

-- its number, in the same way
pub position_only : {A : Type 0} (test : A → Bool) (xs : List A) (i : ℕ) (x : A) → slice_get xs i ≡ Some x → test x ≡ true → ((j : ℕ) (y : A) → slice_get xs j ≡ Some y → test y ≡ true → j ≡ i) → position test xs ≡ Some i
position_only test xs i x at passes only =
    let lt = slice_get_within xs i x at in
    let first : position_or_len test xs ≡ i = position_or_len_is test xs i x (omega arith) (λ k h. fails k h (test (get_or xs k x)) refl) (λ h. ap test (get_or_from_slice_get xs i x x at) ∙ passes) in
    ap (λ n. cond (nat_lt n (length xs)) (Some n) None) first ∙ ap (λ b. cond b (Some i) None) (lt-ltb i (length xs) lt)
  where
    fails : (k : ℕ) → k < i → (b : Bool) → test (get_or xs k x) ≡ b → test (get_or xs k x) ≡ false
    fails k h true e = let lt = slice_get_within xs i x at in let same = only k (get_or xs k x) (slice_get-get_or xs k x (omega arith)) e in absurd (omega arith)
    fails k h false e = e

-- the test of a piece on a cell
pub covers_test : (c : ℕ) (p : Piece) → p.at ≤ c → c < p.at + p.count → is_covered_by c p ≡ true
covers_test c p low high = grind (arith, nat_tests)

pub test_covers : (c : ℕ) (p : Piece) → is_covered_by c p ≡ true → (p.at ≤ c) × (c < p.at + p.count)
test_covers c p h = grind (arith, nat_tests)

-- the piece that covers a cell of a sound plan is the one at the cell
pub piece_at-covered : (plan : Plan) (number c : ℕ) (p : Piece) → IsSound plan → slice_get plan.pieces number ≡ Some p → p.at ≤ c → c < p.at + p.count → piece_at plan c ≡ Some number
piece_at-covered plan number c p sound is low high =
    position_only (is_covered_by c) plan.pieces number p is (covers_test c p low high) (λ j q q_is passes. let w = test_covers c q passes in sound.pieces_are_apart j number c (q, q_is, w.0, w.1) (p, is, low, high))

-- a cell that a piece covers is fed by the piece's frame
pub cell_source-covered : (plan : Plan) (number c : ℕ) (p : Piece) → IsSound plan → slice_get plan.pieces number ≡ Some p → p.at ≤ c → c < p.at + p.count → cell_source plan c ≡ fed p.from (p.first + (c - p.at))
unfolding cell_source
cell_source-covered plan number c p sound is low high =
    let empty : held_at plan.filled c ≡ None = sound.pieces_spare_the_filled number c (p, is, low, high) in
    let found = ap (option_and_then (λ n. slice_get plan.pieces n)) (piece_at-covered plan number c p sound is low high) ∙ is in
    ap (λ (o : Option Elem). option_map_or initial o (piece_source plan c)) empty ∙ ap (λ (o : Option Piece). option_map_or (λ (r : Piece). fed r.from (r.first + (c - r.at))) o nobody) found

-- a cell that a frame feeds is covered by a piece of that frame
pub fed-covered : (plan : Plan) (c frame place : ℕ) → cell_source plan c ≡ fed frame place → (number : ℕ) × (p : Piece) × (slice_get plan.pieces number ≡ Some p) × (p.at ≤ c) × (c < p.at + p.count) × (p.from ≡ frame) × (p.first + (c - p.at) ≡ place)
unfolding cell_source
fed-covered plan c frame place h = by_number (held_at plan.filled c) (piece_at plan c) refl h
  where
    by_piece : (number : ℕ) (f : Option Piece) → slice_get plan.pieces number ≡ f → piece_at plan c ≡ Some number → option_map_or (λ (r : Piece). fed r.from (r.first + (c - r.at))) f nobody ≡ fed frame place → (number : ℕ) × (p : Piece) × (slice_get plan.pieces number ≡ Some p) × (p.at ≤ c) × (c < p.at + p.count) × (p.from ≡ frame) × (p.first + (c - p.at) ≡ place)
    by_piece number None is e h = absurd (cc)
    by_piece number (Some p) is e h =
        let passes = (position-Some (is_covered_by c) plan.pieces number p e).1 in
        let w = test_covers c p (ap (is_covered_by c) (sym (get_or_from_slice_get plan.pieces number p p is)) ∙ passes) in
        (number, p, is, w.0, w.1, cc, cc)

    by_number : (o : Option Elem) (n : Option ℕ) → piece_at plan c ≡ n → option_map_or initial o (option_map_or (λ (r : Piece). fed r.from (r.first + (c - r.at))) (option_and_then (λ number. slice_get plan.pieces number) n) nobody) ≡ fed frame place → (number : ℕ) × (p : Piece) × (slice_get plan.pieces number ≡ Some p) × (p.at ≤ c) × (c < p.at + p.count) × (p.from ≡ frame) × (p.first + (c - p.at) ≡ place)
    by_number (Some v) n e h = absurd (cc)
    by_number None None e h = absurd (cc)
    by_number None (Some number) e h = by_piece number (slice_get plan.pieces number) refl e h

-- the sources of cells, one by one
pub map_map : (f : ℕ → Source) (g : Source → Option Elem) (xs : List ℕ) → map g (map f xs) ≡ map (λ x. g (f x)) xs
map_map f g [] = refl
map_map f g (x ∷ xs) = ap (λ (ys : List (Option Elem)). g (f x) ∷ ys) (map_map f g xs)
