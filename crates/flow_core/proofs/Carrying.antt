-- What carrying a piece over does to cells and counters.
use Rattle.std.proofs.Common.{◌≡◌, ◌≢◌, ℕ, ◌+◌, ◌-◌, ◌<◌, ◌≤◌, ℤ, pos, List, Option, Some, length, get_or, set, None, false, refl, sym, ap, ◌∙◌, subst, ◌⊎◌, inl, inr, arith}
use Rattle.std.specs.Prelude.{is_none, slice_get}
use Rattle.std.specs.Option.{option_map}
use Rattle.std.proofs.lemmas.Bool.{cases_lt, cases_eq}
use Rattle.std.proofs.lemmas.List.{get_or-set_same, get_or-set_other, length-set}
use Rattle.std.proofs.lemmas.Option.{slice_get-get_or, same_Some}
use Rattle.flow_core_laws.specs.declared.plan.Piece.{Piece}
use Rattle.flow_core_laws.specs.declared.elem.Elem.{Elem}
use Rattle.flow_core_laws.specs.declared.elem.Elem.TheVariants.{Value}
use Rattle.flow_core_laws.specs.declared.plan.Plan.{Plan}
use Rattle.flow_core_laws.specs.Element.{output_element}
use Rattle.flow_core.specs.declared.waits.Waits.{Waits}
use Rattle.flow_core_laws.specs.Plans.{frame_at, held_at, missing_of}
use Rattle.flow_core_laws.specs.IsSound.{Covers, IsSound, IsSoundPiece}
use Rattle.flow_core.specs.Waits.{OpensFull, OpensMore}
use Rattle.flow_core.specs.Counted.{IsCounted, HasOutputs, Carries, AreEmpty}
use Rattle.flow_core_laws.proofs.Counting.{passing-same, passing-lowered}

-- the cells that the piece of a number covers
pub covered : (plan : Plan) (number c : ℕ) (p : Piece) → slice_get plan.pieces number ≡ Some p → Covers plan number c → (p.at ≤ c) × (c < p.at + p.count)
covered plan number c p is (q, q_is, low, high) =
    let e : q ≡ p = same_Some q p (sym q_is ∙ is) in
    (subst (λ (r : Piece). r.at ≤ c) e low, subst (λ (r : Piece). c < r.at + r.count) e high)

-- where there is a root or the outputs reach far enough, an output element is there
output_there : (root : Option ℕ) (outputs : List ℤ) (count place : ℕ) → HasOutputs count root outputs → place < count → is_none (output_element root outputs place) ≡ false
output_there (Some r) outputs count place has lt = refl
output_there None outputs count place has lt = let le = has refl in ap (λ (o : Option ℤ). is_none (option_map Value o)) (slice_get-get_or outputs place (pos 0) (omega arith))

-- a piece is carried over where its elements are put into its cells
pub Carries-from_fill : (plan : Plan) (number : ℕ) (p : Piece) (root : Option ℕ) (outputs : List ℤ) (old new : List (Option Elem)) → slice_get plan.pieces number ≡ Some p → ((k : ℕ) → k < p.count → held_at new (p.at + k) ≡ output_element root outputs (p.first + k)) → ((c : ℕ) → c < p.at → held_at new c ≡ held_at old c) → ((c : ℕ) → p.at + p.count ≤ c → held_at new c ≡ held_at old c) → Carries plan number (number + 1) root outputs old new
Carries-from_fill plan number p root outputs old new is filled before behind = record { filled = in_cells; others = λ c free. outside c free (cases_lt c p.at) (cases_lt c (p.at + p.count)) }
  where
    at_place : (c : ℕ) → p.at ≤ c → c < p.at + p.count → held_at new c ≡ output_element root outputs (p.first + (c - p.at))
    at_place c low high =
        let e : c ≡ p.at + (c - p.at) = omega arith in
        ap (held_at new) e ∙ filled (c - p.at) (omega arith)

    in_cells : (m c : ℕ) (q : Piece) → number ≤ m → m < number + 1 → slice_get plan.pieces m ≡ Some q → q.at ≤ c → c < q.at + q.count → held_at new c ≡ output_element root outputs (q.first + (c - q.at))
    in_cells m c q l h q_is low high =
        let n : m ≡ number = omega arith in
        let e : p ≡ q = same_Some p q (sym is ∙ ap (slice_get plan.pieces) (sym n) ∙ q_is) in
        subst (λ (r : Piece). held_at new c ≡ output_element root outputs (r.first + (c - r.at))) e (at_place c (subst (λ (r : Piece). r.at ≤ c) (sym e) low) (subst (λ (r : Piece). c < r.at + r.count) (sym e) high))

    outside : (c : ℕ) → ((m : ℕ) → number ≤ m → m < number + 1 → ¬ (Covers plan m c)) → (c < p.at) ⊎ (p.at ≤ c) → (c < p.at + p.count) ⊎ (p.at + p.count ≤ c) → held_at new c ≡ held_at old c
    outside c free (inl lt) high = before c lt
    outside c free (inr ge) (inl lt) = absurd (free number (omega arith) (omega arith) (p, is, ge, lt))
    outside c free (inr ge) (inr above) = behind c above

-- a cell that one piece doesn't cover stays as it was
other_stays : (plan : Plan) (number : ℕ) (p : Piece) (root : Option ℕ) (outputs : List ℤ) (old new : List (Option Elem)) → slice_get plan.pieces number ≡ Some p → Carries plan number (number + 1) root outputs old new → (c : ℕ) → (c < p.at) ⊎ (p.at + p.count ≤ c) → held_at new c ≡ held_at old c
other_stays plan number p root outputs old new is carries c outside = carries.others c (λ m l h covers. free m l h covers outside)
  where
    free : (m : ℕ) → number ≤ m → m < number + 1 → Covers plan m c → (c < p.at) ⊎ (p.at + p.count ≤ c) → ⊥
    free m l h covers (inl lt) = let n : m ≡ number = omega arith in let w = covered plan m c p (ap (slice_get plan.pieces) n ∙ is) covers in absurd (omega (arith, w.0))
    free m l h covers (inr ge) = let n : m ≡ number = omega arith in let w = covered plan m c p (ap (slice_get plan.pieces) n ∙ is) covers in absurd (omega (arith, w.1))

-- the frame to which a piece goes misses as many elements less as the piece has
pub missing-lowered : (plan : Plan) (number : ℕ) (p : Piece) (root : Option ℕ) (outputs : List ℤ) (old new : List (Option Elem)) → IsSound plan → slice_get plan.pieces number ≡ Some p → HasOutputs (p.first + p.count) root outputs → AreEmpty plan number (number + 1) old → Carries plan number (number + 1) root outputs old new → missing_of plan new p.to + p.count ≡ missing_of plan old p.to
missing-lowered plan number p root outputs old new sound is fits empty carries =
    let s : IsSoundPiece plan p = sound.pieces_are_sound number p is in
    passing-lowered (λ c. is_none (held_at old c)) (λ c. is_none (held_at new c)) (frame_at plan p.to).cell (frame_at plan p.to).inputs p.at p.count s.fills_from_its_cells s.fills_to_its_cells
    (λ k l h. ap is_none (empty number k (omega arith) (omega arith) (p, is, l, h)))
    (λ k l h. ap is_none (carries.filled number k p (omega arith) (omega arith) is l h) ∙ output_there root outputs (p.first + p.count) (p.first + (k - p.at)) fits (omega arith))
    (λ k l. ap is_none (other_stays plan number p root outputs old new is carries k (inl l)))
    (λ k l. ap is_none (other_stays plan number p root outputs old new is carries k (inr l)))

-- the other frames miss what they missed
pub missing-same : (plan : Plan) (number : ℕ) (p : Piece) (root : Option ℕ) (outputs : List ℤ) (old new : List (Option Elem)) → IsSound plan → slice_get plan.pieces number ≡ Some p → Carries plan number (number + 1) root outputs old new → (g : ℕ) → g ≤ length plan.frames → g ≢ p.to → missing_of plan new g ≡ missing_of plan old g
missing-same plan number p root outputs old new sound is carries g exists other =
    let s : IsSoundPiece plan p = sound.pieces_are_sound number p is in
    passing-same (λ c. is_none (held_at new c)) (λ c. is_none (held_at old c)) (frame_at plan g).cell (frame_at plan g).inputs
    (λ k l h. ap is_none (other_stays plan number p root outputs old new is carries k (apart s k l h (cases_lt k p.at) (cases_lt k (p.at + p.count)))))
  where
    apart : IsSoundPiece plan p → (k : ℕ) → (frame_at plan g).cell ≤ k → k < (frame_at plan g).cell + (frame_at plan g).inputs → (k < p.at) ⊎ (p.at ≤ k) → (k < p.at + p.count) ⊎ (p.at + p.count ≤ k) → (k < p.at) ⊎ (p.at + p.count ≤ k)
    apart s k l h (inl lt) high = inl lt
    apart s k l h (inr ge) (inr above) = inr above
    apart s k l h (inr ge) (inl lt) = absurd (other (sound.cells_are_apart g p.to k exists s.goes_to_a_frame (l, h) (let a = s.fills_from_its_cells in let b = s.fills_to_its_cells in (omega arith, omega arith))))

-- the counters after a piece to a frame, and after one to the sink
pub IsCounted-lowered : (plan : Plan) (number : ℕ) (p : Piece) (root : Option ℕ) (outputs : List ℤ) (old new : List (Option Elem)) (waits after : Waits) → IsSound plan → slice_get plan.pieces number ≡ Some p → HasOutputs (p.first + p.count) root outputs → AreEmpty plan number (number + 1) old → Carries plan number (number + 1) root outputs old new → length new ≡ length old → IsCounted plan old waits → p.to < length plan.frames → after.missing.items ≡ set waits.missing.items p.to (get_or waits.missing.items p.to 0 - p.count) → OpensFull after → IsCounted plan new after
IsCounted-lowered plan number p root outputs old new waits after sound is fits empty carries len counted exists lowered full = record {
  cells_of_plan = len ∙ counted.cells_of_plan;
  frames_of_plan = ap length lowered ∙ length-set waits.missing.items p.to _ ∙ counted.frames_of_plan;
  counts = λ f lt. count_of f lt (cases_eq f p.to);
  opens_full = full;
}
  where
    count_of : (f : ℕ) → f < length plan.frames → (f ≡ p.to) ⊎ (f ≢ p.to) → get_or after.missing.items f 0 ≡ missing_of plan new f
    count_of f lt (inl same) =
        let a : get_or after.missing.items p.to 0 ≡ get_or waits.missing.items p.to 0 - p.count = ap (λ (xs : List ℕ). get_or xs p.to 0) lowered ∙ get_or-set_same waits.missing.items p.to _ 0 (omega (arith, counted.frames_of_plan)) in
        let b : get_or waits.missing.items p.to 0 ≡ missing_of plan old p.to = counted.counts p.to exists in
        let m : missing_of plan new p.to + p.count ≡ missing_of plan old p.to = missing-lowered plan number p root outputs old new sound is fits empty carries in
        subst (λ (k : ℕ). get_or after.missing.items k 0 ≡ missing_of plan new k) (sym same) (omega (arith, a, b, m))
    count_of f lt (inr other) =
        let a : get_or after.missing.items f 0 ≡ get_or waits.missing.items f 0 = ap (λ (xs : List ℕ). get_or xs f 0) lowered ∙ get_or-set_other waits.missing.items p.to f _ 0 other in
        a ∙ counted.counts f lt ∙ sym (missing-same plan number p root outputs old new sound is carries f (omega arith) other)

pub IsCounted-sink : (plan : Plan) (number : ℕ) (p : Piece) (root : Option ℕ) (outputs : List ℤ) (old new : List (Option Elem)) (waits : Waits) → IsSound plan → slice_get plan.pieces number ≡ Some p → Carries plan number (number + 1) root outputs old new → length new ≡ length old → IsCounted plan old waits → length plan.frames ≤ p.to → IsCounted plan new waits
IsCounted-sink plan number p root outputs old new waits sound is carries len counted sink = record {
  cells_of_plan = len ∙ counted.cells_of_plan;
  frames_of_plan = counted.frames_of_plan;
  counts = λ f lt. counted.counts f lt ∙ sym (missing-same plan number p root outputs old new sound is carries f (omega arith) (λ same. omega arith));
  opens_full = counted.opens_full;
}

-- nothing is carried yet
pub Carries-none : (plan : Plan) (low : ℕ) (root : Option ℕ) (outputs : List ℤ) (cells : List (Option Elem)) → Carries plan low low root outputs cells cells
Carries-none plan low root outputs cells = record { filled = λ number c p l h is from to. absurd (omega arith); others = λ c free. refl }

-- one more piece
pub Carries-more : (plan : Plan) (low high : ℕ) (root : Option ℕ) (outputs : List ℤ) (old mid new : List (Option Elem)) → IsSound plan → low ≤ high → Carries plan low high root outputs old mid → Carries plan high (high + 1) root outputs mid new → Carries plan low (high + 1) root outputs old new
Carries-more plan low high root outputs old mid new sound le first next = record { filled = λ number c p l h is from to. fill number c p l h is from to (cases_lt number high); others = λ c free. next.others c (λ number l h. free number (omega arith) h) ∙ first.others c (λ number l h. free number l (omega arith)) }
  where
    fill : (number c : ℕ) (p : Piece) → low ≤ number → number < high + 1 → slice_get plan.pieces number ≡ Some p → p.at ≤ c → c < p.at + p.count → (number < high) ⊎ (high ≤ number) → held_at new c ≡ output_element root outputs (p.first + (c - p.at))
    fill number c p l h is from to (inl lt) = next.others c (λ m ml mh covers. let e = sound.pieces_are_apart number m c (p, is, from, to) covers in absurd (omega arith)) ∙ first.filled number c p l lt is from to
    fill number c p l h is from to (inr ge) = next.filled number c p ge h is from to

-- the cells of the next piece have no value yet
pub AreEmpty-next : (plan : Plan) (low high end : ℕ) (root : Option ℕ) (outputs : List ℤ) (old new : List (Option Elem)) → IsSound plan → low ≤ high → high < end → AreEmpty plan low end old → Carries plan low high root outputs old new → AreEmpty plan high (high + 1) new
AreEmpty-next plan low high end root outputs old new sound le lt empty carries number c l h covers =
    carries.others c (λ m ml mh other. let e = sound.pieces_are_apart number m c covers other in absurd (omega arith)) ∙ empty number c (omega arith) (omega arith) covers

-- opening more, and more again
pub OpensMore-none : (w : Waits) → OpensMore w w
OpensMore-none w = record { stay_full = λ f h. h; grows = omega arith; keeps = λ k h. refl; were_waiting = λ k l h. absurd (omega arith) }

pub OpensMore-trans : (u v w : Waits) → OpensMore u v → OpensMore v w → OpensMore u w
OpensMore-trans u v w p q = record {
  stay_full = λ f h. q.stay_full f (p.stay_full f h);
  grows = let a = p.grows in let b = q.grows in omega arith;
  keeps = λ k h. q.keeps k (let a = p.grows in omega arith) ∙ p.keeps k h;
  were_waiting = λ k l h. waited k l h (cases_lt k (length v.opened.items));
}
  where
    waited : (k : ℕ) → length u.opened.items ≤ k → k < length w.opened.items → (k < length v.opened.items) ⊎ (length v.opened.items ≤ k) → get_or u.missing.items (get_or w.opened.items k 0) 0 ≢ 0
    waited k l h (inl lt) = λ z. p.were_waiting k l lt (subst (λ (f : ℕ). get_or u.missing.items f 0 ≡ 0) (q.keeps k lt) z)
    waited k l h (inr ge) = λ z. q.were_waiting k ge h (p.stay_full (get_or w.opened.items k 0) z)

-- the piece that was read at a number
pub piece_read : (plan : Plan) (pieces : List Piece) (number : ℕ) (d : Piece) → pieces ≡ plan.pieces → number < length plan.pieces → slice_get plan.pieces number ≡ Some (get_or pieces number d)
piece_read plan pieces number d e lt = slice_get-get_or plan.pieces number d lt ∙ ap (λ (xs : List Piece). Some (get_or xs number d)) (sym e)

-- a piece goes into cells that exist
pub piece_fits : (plan : Plan) (number : ℕ) (p : Piece) → IsSound plan → slice_get plan.pieces number ≡ Some p → p.at + p.count ≤ length plan.filled
piece_fits plan number p sound is =
    let s : IsSoundPiece plan p = sound.pieces_are_sound number p is in
    let a = s.fills_to_its_cells in
    let b = sound.cells_exist p.to s.goes_to_a_frame in
    omega arith

-- the count of a piece fits the counter of its frame
pub count_fits : (plan : Plan) (number : ℕ) (p : Piece) (root : Option ℕ) (outputs : List ℤ) (old new : List (Option Elem)) (waits : Waits) → IsSound plan → slice_get plan.pieces number ≡ Some p → HasOutputs (p.first + p.count) root outputs → AreEmpty plan number (number + 1) old → Carries plan number (number + 1) root outputs old new → IsCounted plan old waits → p.to < length plan.frames → p.count ≤ get_or waits.missing.items p.to 0
count_fits plan number p root outputs old new waits sound is fits empty carries counted exists =
    let a = counted.counts p.to exists in
    let b = missing-lowered plan number p root outputs old new sound is fits empty carries in
    omega arith

-- a piece goes into cells of a run
pub fits_cells : (plan : Plan) (number : ℕ) (p : Piece) (cells : List (Option Elem)) (waits : Waits) → IsSound plan → slice_get plan.pieces number ≡ Some p → IsCounted plan cells waits → p.at + p.count ≤ length cells
fits_cells plan number p cells waits sound is counted = omega (arith, piece_fits plan number p sound is, counted.cells_of_plan)
