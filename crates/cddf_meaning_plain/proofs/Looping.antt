-- A loop goes on with one turn less.
use Rattle.std.proofs.Common.{◌≡◌, ℕ, zero, suc, ◌+◌, ◌≤◌, Bool, true, false, not, if◌then◌else◌, Ok, ℤ, refl, ap, ◌∙◌, sym, arith}
use Rattle.c_int.specs.Operators.{is_zero}
use Rattle.cddf_meaning.specs.Answers.{Answer, Left, left}
use Rattle.cddf_meaning.specs.Flow.{Ran, Went, Runs, with_value, goes_on, flows, loops}
use Rattle.cddf_meaning.specs.Run.{loop}
use Rattle.cddf_meaning.specs.BodyState.{BodyState}
use Rattle.cddf_meaning.specs.declared.flow.Flow.{Flow}

-- behind such a body a loop goes on
abbrev pub Again : Flow → Type 0
Again flow = (next : Runs) (s : BodyState) (turns : ℕ) → loops next (Went flow s turns) ≡ next s turns

one-turn : (m : ℕ) (test : BodyState → ℕ → Answer (Left ℤ)) (body step : Runs) (s s2 s3 : BodyState) (t t1 t2 t3 : ℕ) (n : ℤ) (flow : Flow) →
    test s t ≡ Ok (left n t1) → is_zero n ≡ false → body s t1 ≡ Went flow s2 t2 → Again flow → step s2 t2 ≡ goes_on s3 t3 →
    loop (suc m) test body step s (suc t) ≡ loop m test body step s3 t3
one-turn m test body step s s2 s3 t t1 t2 t3 n flow et ez eb again es =
    let next : Runs = λ s turns. flows (loop m test body step) (step s turns) in
    ap (λ a. with_value a s (λ n. if is_zero n.value then goes_on s n.turns else loops next (body s n.turns))) et
    ∙ ap (λ (z : Bool). if z then goes_on s t1 else loops next (body s t1)) ez
    ∙ ap (loops next) eb ∙ again next s2 t2 ∙ ap (flows (loop m test body step)) es

nothing-left : (t turns : ℕ) → turns ≤ 0 → turns ≡ t + 1 → ⊥
nothing-left t turns h z = omega (arith, h, z)

pub loop-kept : (most turns t t1 t2 t3 : ℕ) (test : BodyState → ℕ → Answer (Left ℤ)) (body step : Runs) (s s2 s3 : BodyState) (n : ℤ) (flow : Flow)
    (all : Ran) → turns ≤ most → turns ≡ t + 1 → loop most test body step s turns ≡ all → test s t ≡ Ok (left n t1) → is_zero n ≡ false →
    body s t1 ≡ Went flow s2 t2 → Again flow → step s2 t2 ≡ goes_on s3 t3 → t3 ≤ t →
    (x : ℕ) × (t3 ≤ x) × (loop x test body step s3 t3 ≡ all)
loop-kept zero turns t t1 t2 t3 test body step s s2 s3 n flow all h z inv et ez eb again es less = absurd (nothing-left t turns h z)
loop-kept (suc m) turns t t1 t2 t3 test body step s s2 s3 n flow all h z inv et ez eb again es less =
    let same : suc t ≡ turns = omega (arith, z) in (
      m,
      omega (arith, h, z, less),
      sym (one-turn m test body step s s2 s3 t t1 t2 t3 n flow et ez eb again es)
          ∙ ap (loop (suc m) test body step s) same ∙ inv,
    )

-- a loop ends where its body leaves it
pub loop-left : (most turns t t1 t2 : ℕ) (test : BodyState → ℕ → Answer (Left ℤ)) (body step : Runs) (s s2 : BodyState) (n : ℤ) (flow gone : Flow)
    (all : Ran) → turns ≤ most → turns ≡ t + 1 → loop most test body step s turns ≡ all → test s t ≡ Ok (left n t1) → is_zero n ≡ false →
    body s t1 ≡ Went flow s2 t2 → ((next : Runs) (s : BodyState) (turns : ℕ) → loops next (Went flow s turns) ≡ Went gone s turns) →
    all ≡ Went gone s2 t2
loop-left zero turns t t1 t2 test body step s s2 n flow gone all h z inv et ez eb leaves = absurd (nothing-left t turns h z)
loop-left (suc m) turns t t1 t2 test body step s s2 n flow gone all h z inv et ez eb leaves =
    let same : turns ≡ suc t = omega (arith, z) in
    let next : Runs = λ s turns. flows (loop m test body step) (step s turns) in
    sym inv ∙ ap (loop (suc m) test body step s) same
    ∙ ap (λ a. with_value a s (λ n. if is_zero n.value then goes_on s n.turns else loops next (body s n.turns))) et
    ∙ ap (λ (z : Bool). if z then goes_on s t1 else loops next (body s t1)) ez
    ∙ ap (loops next) eb ∙ leaves next s2 t2

zero-not : (z : Bool) → not z ≡ true → z ≡ false
zero-not true h = cc
zero-not false h = refl

-- what the code tests
pub not-zero : (n : ℤ) (holds : Bool) → holds ≡ not (is_zero n) → holds ≡ true → is_zero n ≡ false
not-zero n holds e t = zero-not (is_zero n) (sym e ∙ t)
