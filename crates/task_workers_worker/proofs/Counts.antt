-- A frame that is claimed is left no more.
use Rattle.std.proofs.Common.{◌≡◌, ℕ, zero, suc, ◌+◌, ◌-◌, ◌*◌, suc-mul, ◌<◌, ◌≤◌, ◌≢◌, Bool, true, false, List, [], ◌∷◌, ◌++◌, refl, sym, ap, ◌∙◌, ◌⊎◌, inl, inr, arith, eq-eqb}
use Rattle.std.specs.Prelude.{◌==◌}
use Rattle.std.proofs.lemmas.Bool.{cases_eq, ne_eqb}
use Rattle.flow_core_concurrent.specs.declared.view.View.{View}
use Rattle.frame_table.specs.Plays.{looked}
use Rattle.flow_core_concurrent.specs.States.{times}
use Rattle.flow_core_concurrent.specs.Counted.{one}
use Rattle.flow_core_concurrent.proofs.Looks.{times_push}
use Rattle.task_workers_worker.specs.Left.{left_of}

left_other : (n : ℕ) (ran : List ℕ) (f : ℕ) → n ≤ f → left_of n (ran ++ f ∷ []) ≡ left_of n ran
left_other zero ran f h = refl
left_other (suc n) ran f h =
    let a = left_other n ran f (omega (arith, h)) in
    let t = times_push n ran f in
    let o : one (f == n) ≡ 0 = ap one (ne_eqb f n (λ e. omega (arith, e, h))) in
    let e : times n (ran ++ f ∷ []) ≡ times n ran = omega (arith, t, o) in
    λ k. a k + one (e k == 0)

pub left_less : (n : ℕ) (ran : List ℕ) (f : ℕ) → f < n → times f ran ≡ 0 → left_of n (ran ++ f ∷ []) + 1 ≡ left_of n ran
left_less zero ran f h new = absurd (omega (arith, h))
left_less (suc n) ran f h new = by (λ lt. left_less n ran f lt new) (cases_eq n f)
  where
    by : (f < n → left_of n (ran ++ f ∷ []) + 1 ≡ left_of n ran) → (n ≡ f) ⊎ (n ≢ f) → left_of n (ran ++ f ∷ []) + one (times n (ran ++ f ∷ []) == 0) + 1 ≡ left_of n ran + one (times n ran == 0)
    by less (inl e) =
        let a = left_other n ran f (omega (arith, e)) in
        let t = times_push n ran f in
        let o : one (f == n) ≡ 1 = ap one (eq-eqb f n (sym e)) in
        let old : times n ran ≡ 0 = ap (λ k. times k ran) e ∙ new in
        let b : one (times n ran == 0) ≡ 1 = ap one (eq-eqb (times n ran) 0 old) in
        let c : one (times n (ran ++ f ∷ []) == 0) ≡ 0 = ap one (ne_eqb (times n (ran ++ f ∷ [])) 0 (λ z. omega (arith, t, o, z))) in
        omega (arith, a, b, c)
    by less (inr ne) =
        let a = less (let d : f < n = omega (arith, h, ne) in d) in
        let t = times_push n ran f in
        let o : one (f == n) ≡ 0 = ap one (ne_eqb f n (λ e. ne (sym e))) in
        let e : times n (ran ++ f ∷ []) ≡ times n ran = omega (arith, t, o) in
        let c : one (times n (ran ++ f ∷ []) == 0) ≡ one (times n ran == 0) = ap (λ k. one (k == 0)) e in
        omega (arith, a, c)

pub looked_ran : (v : View) (f : ℕ) (b : Bool) → (looked v f b).ran ≡ v.ran
looked_ran v f true = refl
looked_ran v f false = refl

pub smaller : (n most : ℕ) (ran ran' : List ℕ) (f looks looks' : ℕ) → f < n → times f ran ≡ 0 → ran' ≡ ran ++ f ∷ [] → left_of n ran' * (most + 1) + (most - looks') < left_of n ran * (most + 1) + (most - looks)
smaller n most ran ran' f looks looks' lt new is =
    let a : left_of n ran' + 1 ≡ left_of n ran = ap (λ r. left_of n r + 1) is ∙ left_less n ran f lt new in
    let b : left_of n ran * (most + 1) ≡ (left_of n ran' + 1) * (most + 1) = ap (λ k. k * (most + 1)) (sym a) in
    let d : suc (left_of n ran') * (most + 1) ≡ left_of n ran' * (most + 1) + (most + 1) = suc-mul (left_of n ran') (most + 1) in
    let e : (left_of n ran' + 1) * (most + 1) ≡ suc (left_of n ran') * (most + 1) = let s : left_of n ran' + 1 ≡ suc (left_of n ran') = omega arith in ap (λ k. k * (most + 1)) s in
    let x : ℕ = left_of n ran' * (most + 1) in
    omega (arith, b, d, e)
