-- The first point at which a test holds.
use Rattle.std.proofs.Common.{◌≡◌, ℕ, zero, suc, ◌+◌, ◌-◌, ◌<◌, ◌≤◌, Bool, true, false, cond, refl, sym, ap, ◌∙◌, subst, ⊎_elim, arith}
use Rattle.std.proofs.lemmas.Bool.{cond-true, cond-false, cases_lt, false≢true}
use Rattle.os_lexer.specs.Reading.{first_from}

-- where the test fails, the search goes on
pub first_from-more : (test : ℕ → Bool) (len point : ℕ) → point < len → test point ≡ false → first_from test (len - point) point ≡ first_from test (len - (point + 1)) (point + 1)
first_from-more test len point below fails =
    let count : len - point ≡ suc (len - (point + 1)) = omega arith in
    ap (λ n. first_from test n point) count ∙ cond-false (test point) _ _ fails

-- where it holds, the search ends
pub first_from-here : (test : ℕ → Bool) (len point : ℕ) → point < len → test point ≡ true → first_from test (len - point) point ≡ point
first_from-here test len point below holds =
    let count : len - point ≡ suc (len - (point + 1)) = omega arith in
    ap (λ n. first_from test n point) count ∙ cond-true (test point) _ _ holds

-- and it ends behind the last point
pub first_from-past : (test : ℕ → Bool) (len point : ℕ) → len ≤ point → first_from test (len - point) point ≡ point
first_from-past test len point past =
    let count : len - point ≡ 0 = omega arith in ap (λ n. first_from test n point) count

-- what a search finds: no point before it passes the test, and it does, or is the end
pub record IsFirst (test : ℕ → Bool) (from to found : ℕ) : Type 0 where
  pub low : from ≤ found
  pub high : found ≤ to
  pub before : (i : ℕ) → from ≤ i → i < found → test i ≡ false
  pub here : found < to → test found ≡ true

IsFirst-choice : (test : ℕ → Bool) (point to rest : ℕ) (b : Bool) → test point ≡ b → point < to → IsFirst test (point + 1) to rest → IsFirst test point to (cond b point rest)
IsFirst-choice test point to rest true e below later = record {
  low = omega arith;
  high = omega arith;
  before = λ i low high. absurd (omega arith);
  here = λ _. e;
}
IsFirst-choice test point to rest false e below later = record {
  low = omega (arith, later.low);
  high = later.high;
  before = λ i low high. ⊎_elim (λ less. later.before i (omega (arith, less)) high) (λ same. ap test (omega (arith, same)) ∙ e) (cases_lt point i);
  here = later.here;
}

IsFirst-from : (test : ℕ → Bool) (n point : ℕ) → IsFirst test point (point + n) (first_from test n point)
IsFirst-from test zero point = record {
  low = omega arith;
  high = omega arith;
  before = λ i low high. absurd (omega arith);
  here = λ below. absurd (omega arith);
}
IsFirst-from test (suc n) point =
    let later : IsFirst test (point + 1) (point + suc n) (first_from test n (point + 1)) =
    subst (λ to. IsFirst test (point + 1) to (first_from test n (point + 1))) (omega arith) (IsFirst-from test n (point + 1))
    in
    IsFirst-choice test point (point + suc n) (first_from test n (point + 1)) (test point) refl (omega arith) later

-- the search in a slice
pub IsFirst-in : (test : ℕ → Bool) (from to : ℕ) → from ≤ to → IsFirst test from to (first_from test (to - from) from)
IsFirst-in test from to within =
    subst (λ end. IsFirst test from end (first_from test (to - from) from)) (omega arith) (IsFirst-from test (to - from) from)

module _ {test : ℕ → Bool} {from to found : ℕ} (first : IsFirst test from to found) where
  -- a search passes the points that fail
  pub IsFirst-passes : (n : ℕ) → n ≤ to → ((i : ℕ) → from ≤ i → i < n → test i ≡ false) → n ≤ found
  IsFirst-passes n within fails =
      ⊎_elim (λ early. absurd (false≢true (sym (fails found first.low early) ∙ first.here (omega (arith, first.high))))) (λ late. late) (cases_lt found n)

  -- and ends at the first that passes
  pub IsFirst-is : (n : ℕ) → from ≤ n → n < to → ((i : ℕ) → from ≤ i → i < n → test i ≡ false) → test n ≡ true → found ≡ n
  IsFirst-is n low below fails passes =
      let late = IsFirst-passes n (omega arith) fails in
      ⊎_elim (λ later. absurd (false≢true (sym (first.before n low later) ∙ passes))) (λ early. omega (arith, late, early)) (cases_lt n found)
