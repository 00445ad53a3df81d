-- A sound plan has at most as many pieces as cells: each piece has a first cell, and no two the same.
use Rattle.std.proofs.Common.{◌≡◌, ℕ, ◌<◌, ◌≤◌, true, false, eqb, eqb-true, List, map, length, get_or, sym, ◌∙◌, subst, arith, Some}
use Rattle.std.specs.Prelude.{slice_get}
use Rattle.std.specs.List.{list_any}
use Rattle.std.proofs.lemmas.Bool.{ne_eqb}
use Rattle.std.proofs.lemmas.List.{length-map, get_or-map}
use Rattle.std.proofs.lemmas.List.Folds.{Any-from_list_any}
use Rattle.std.proofs.lemmas.Map.Keys.{IsDistinct-from_apart}
use Rattle.std.proofs.lemmas.Map.Steps.{length-le_from_distinct_below}
use Rattle.std.proofs.lemmas.Option.{slice_get-get_or}
use Rattle.flow_core_laws.specs.declared.plan.Piece.{Piece}
use Rattle.flow_core_laws.specs.declared.plan.Plan.{Plan}
use Rattle.flow_core_laws.specs.IsSound.{IsSound, Covers}

abbrev no_piece : Piece
no_piece = record { from = 0; to = 0; first = 0; count = 0; at = 0 }

abbrev piece : Plan → ℕ → Piece
piece plan i = get_or plan.pieces i no_piece

abbrev starts : Plan → List ℕ
starts plan = map (λ (p : Piece). p.at) plan.pieces

is_there : (plan : Plan) (i : ℕ) → i < length plan.pieces → slice_get plan.pieces i ≡ Some (piece plan i)
is_there plan i lt = slice_get-get_or plan.pieces i no_piece lt

covers_first : (plan : Plan) (i : ℕ) → IsSound plan → i < length plan.pieces → Covers plan i (piece plan i).at
covers_first plan i sound lt =
    let there = is_there plan i lt in
    let some = (sound.pieces_are_sound i (piece plan i) there).has_elements in
    (piece plan i, there, omega arith, omega (arith, some))

start_is : (plan : Plan) (i d : ℕ) → i < length plan.pieces → get_or (starts plan) i d ≡ (piece plan i).at
start_is plan i d lt = get_or-map (λ (p : Piece). p.at) plan.pieces i no_piece d lt

apart : (plan : Plan) → IsSound plan → (i j d : ℕ) → i < j → j < length (starts plan) → eqb (get_or (starts plan) i d) (get_or (starts plan) j d) ≡ false
apart plan sound i j d lt there =
    let l = length-map plan.pieces (λ (p : Piece). p.at) in
    let low : i < length plan.pieces = omega (arith, lt, there, l) in
    let high : j < length plan.pieces = omega (arith, there, l) in
    ne_eqb (get_or (starts plan) i d) (get_or (starts plan) j d) (λ same.
    let e : (piece plan j).at ≡ (piece plan i).at = sym (start_is plan j d high) ∙ sym same ∙ start_is plan i d low in
    let one : i ≡ j = sound.pieces_are_apart i j (piece plan i).at (covers_first plan i sound low) (subst (λ c. Covers plan j c) e (covers_first plan j sound high)) in
    absurd (omega (arith, lt, one)))

start_below : (plan : Plan) (i : ℕ) → IsSound plan → i < length plan.pieces → (piece plan i).at < length plan.filled
start_below plan i sound lt =
    let s = sound.pieces_are_sound i (piece plan i) (is_there plan i lt) in
    let a = s.fills_to_its_cells in
    let b = s.has_elements in
    let e = sound.cells_exist (piece plan i).to s.goes_to_a_frame in
    omega (arith, a, b, e)

below : (plan : Plan) → IsSound plan → (q : ℕ) → list_any (eqb q) (starts plan) ≡ true → q < length plan.filled
below plan sound q found =
    let a = Any-from_list_any (eqb q) (starts plan) found in
    let l = length-map plan.pieces (λ (p : Piece). p.at) in
    let k = a.0 in
    let lt : k < length plan.pieces = let t = a.2 in omega (arith, l, t) in
    let is : a.1 ≡ (piece plan k).at = sym a.3 ∙ start_is plan k a.1 lt in
    let same : q ≡ a.1 = eqb-true q a.1 a.4 in
    let low = start_below plan k sound lt in
    omega (arith, is, same, low)

pub pieces_are_few : (plan : Plan) → IsSound plan → length plan.pieces ≤ length plan.filled
pieces_are_few plan sound =
    let l = length-map plan.pieces (λ (p : Piece). p.at) in
    let le = length-le_from_distinct_below (starts plan) (length plan.filled) (IsDistinct-from_apart eqb (starts plan) (apart plan sound)) (below plan sound) in
    omega (arith, l, le)
