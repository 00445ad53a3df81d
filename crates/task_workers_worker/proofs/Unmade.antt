-- A frame that is opened is unmade no more.
use Rattle.std.proofs.Common.{◌≡◌, ◌≢◌, ℕ, zero, suc, ◌+◌, ◌-◌, ◌==◌, ◌<◌, ◌≤◌, Bool, true, false, not, ◌&&◌, nat_lt, if◌then◌else◌, List, [], ◌∷◌, ◌++◌, Option, Some, None, is_none, get_or, refl, sym, ap, ◌∙◌, ◌⊎◌, inl, inr, arith, eq-eqb, cond, lt-ltb, le-ltb}
use Rattle.std.proofs.lemmas.Bool.{cases_eq, ne_eqb}
use Rattle.std.specs.Prelude.{slice_get}
use Rattle.std.specs.List.{range_with_len}
use Rattle.std.proofs.lemmas.List.Sums.{get_or-le-sum_by}
use Rattle.std.proofs.lemmas.List.FromFn.{get_or-range_with_len, length-range_with_len}
use Rattle.flow_core_laws.specs.declared.plan.Piece.{Piece}
use Rattle.flow_core_laws.specs.declared.plan.Plan.{Plan}
use Rattle.flow_core_laws.specs.IsSound.{IsSound}
use Rattle.flow_core_laws.specs.declared.elem.Elem.{Elem}
use Rattle.flow_core_laws.specs.Plans.{frame_at, held_at}
use Rattle.flow_core_concurrent.specs.States.{times}
use Rattle.flow_core_concurrent.specs.Counted.{one}
use Rattle.flow_core_concurrent.proofs.Looks.{times_push}
use Rattle.task_workers_worker.specs.Left.{left_of}
use Rattle.task_workers_worker.proofs.Counts.{left_less}
use Rattle.task_workers_worker.specs.Worked.{below, unmade}

abbrev waits : Plan → ℕ → Bool
waits plan n = not ((frame_at plan n).wait == 0)

pub unmade_other : (plan : Plan) (n : ℕ) (made : List ℕ) (f : ℕ) → n ≤ f → unmade plan n (made ++ f ∷ []) ≡ unmade plan n made
unmade_other plan zero made f h = refl
unmade_other plan (suc n) made f h =
    let a = unmade_other plan n made f (omega (arith, h)) in
    let t = times_push n made f in
    let o : one (f == n) ≡ 0 = ap one (ne_eqb f n (λ e. omega (arith, e, h))) in
    let e : times n (made ++ f ∷ []) ≡ times n made = omega (arith, t, o) in
    λ k. a k + one (waits plan n && (e k == 0))

pub unmade_less : (plan : Plan) (n : ℕ) (made : List ℕ) (f : ℕ) → f < n → times f made ≡ 0 → 1 ≤ (frame_at plan f).wait → unmade plan n (made ++ f ∷ []) + 1 ≡ unmade plan n made
unmade_less plan zero made f h new wait = absurd (omega (arith, h))
unmade_less plan (suc n) made f h new wait = by (λ lt. unmade_less plan n made f lt new wait) (cases_eq n f)
  where
    by : (f < n → unmade plan n (made ++ f ∷ []) + 1 ≡ unmade plan n made) → (n ≡ f) ⊎ (n ≢ f) → unmade plan n (made ++ f ∷ []) + one (waits plan n && (times n (made ++ f ∷ []) == 0)) + 1 ≡ unmade plan n made + one (waits plan n && (times n made == 0))
    by less (inl e) =
        let a = unmade_other plan n made f (omega (arith, e)) in
        let t = times_push n made f in
        let o : one (f == n) ≡ 1 = ap one (eq-eqb f n (sym e)) in
        let old : times n made ≡ 0 = ap (λ k. times k made) e ∙ new in
        let w : waits plan n ≡ true = ap (λ b. not b) (ne_eqb (frame_at plan n).wait 0 (λ z. let same : (frame_at plan n).wait ≡ (frame_at plan f).wait = ap (λ k. (frame_at plan k).wait) e in omega (arith, same, z, wait))) in
        let b : one (waits plan n && (times n made == 0)) ≡ 1 = (λ i. one (w i && (times n made == 0))) ∙ ap one (eq-eqb (times n made) 0 old) in
        let c : one (waits plan n && (times n (made ++ f ∷ []) == 0)) ≡ 0 = (λ i. one (w i && (times n (made ++ f ∷ []) == 0))) ∙ ap one (ne_eqb (times n (made ++ f ∷ [])) 0 (λ z. omega (arith, t, o, z))) in
        omega (arith, a, b, c)
    by less (inr ne) =
        let a = less (let d : f < n = omega (arith, h, ne) in d) in
        let t = times_push n made f in
        let o : one (f == n) ≡ 0 = ap one (ne_eqb f n (λ e. ne (sym e))) in
        let e : times n (made ++ f ∷ []) ≡ times n made = omega (arith, t, o) in
        let c : one (waits plan n && (times n (made ++ f ∷ []) == 0)) ≡ one (waits plan n && (times n made == 0)) = ap (λ k. one (waits plan n && (k == 0))) e in
        omega (arith, a, c)

pub below_one : (n f : ℕ) → f < n → below n (f ∷ []) ≡ f ∷ []
below_one n f lt = ap (λ (b : Bool). if b then f ∷ [] else []) (lt-ltb f n lt)

pub below_none : (n f : ℕ) → n ≤ f → below n (f ∷ []) ≡ []
below_none n f le = ap (λ (b : Bool). if b then f ∷ [] else []) (le-ltb f n le)

pub below_append : (n : ℕ) (xs ys : List ℕ) → below n (xs ++ ys) ≡ below n xs ++ below n ys
below_append n [] ys = refl
below_append n (x ∷ xs) ys = by (below_append n xs ys) (nat_lt x n)
  where
    by : below n (xs ++ ys) ≡ below n xs ++ below n ys → (b : Bool) → (if b then x ∷ below n (xs ++ ys) else below n (xs ++ ys)) ≡ (if b then x ∷ below n xs else below n xs) ++ below n ys
    by e true = ap (λ l. x ∷ l) e
    by e false = e

-- a frame to which a piece goes waits at opening
pub waited : (plan : Plan) (number : ℕ) (p : Piece) → IsSound plan → slice_get plan.pieces number ≡ Some p → 1 ≤ (frame_at plan p.to).wait
waited plan number p sound is =
    let s = sound.pieces_are_sound number p is in
    let low = s.fills_from_its_cells in
    let high = s.fills_to_its_cells in
    let some = s.has_elements in
    let f = frame_at plan p.to in
    let k : ℕ = p.at - f.cell in
    let lt : k < f.inputs = omega (arith, low, high, some) in
    let at : get_or (range_with_len f.cell f.inputs) k 0 ≡ p.at = get_or-range_with_len f.cell f.inputs k 0 lt ∙ omega (arith, low) in
    let free : held_at plan.filled p.at ≡ None = sound.pieces_spare_the_filled number p.at (p, is, omega arith, omega (arith, some)) in
    let test : ℕ → ℕ = λ c. cond (is_none (held_at plan.filled c)) 1 0 in
    let one_here : test (get_or (range_with_len f.cell f.inputs) k 0) ≡ 1 = ap test at ∙ ap (λ (o : Option Elem). cond (is_none o) 1 0) free in
    let le = get_or-le-sum_by test (range_with_len f.cell f.inputs) k 0 (let l = length-range_with_len f.cell f.inputs in omega (arith, lt, l)) in
    let count = sound.wait_counts p.to s.goes_to_a_frame in
    omega (arith, one_here, le, count)

pub left_some : (n : ℕ) (ran : List ℕ) (f : ℕ) → f < n → times f ran ≡ 0 → 1 ≤ left_of n ran
left_some n ran f lt new = let a = left_less n ran f lt new in omega (arith, a)
