-- The greatest of the numbers so far.
use Rattle.std.proofs.Common.{◌≡◌, ℕ, ◌+◌, ◌<◌, ◌≤◌, ◌⊎◌, inl, inr, ap, arith}
use Rattle.std.proofs.lemmas.Bool.{cases_eq}

pub greatest : (h : ℕ → ℕ) (k most most' x : ℕ) → ((f : ℕ) → f < k → h f ≤ most) → x ≡ h k → most ≤ most' → x ≤ most' → (f : ℕ) → f < k + 1 → h f ≤ most'
greatest h k most most' x old here low high f lt = by (cases_eq f k)
  where
    by : (f ≡ k) ⊎ (f ≡ k → ⊥) → h f ≤ most'
    by (inl e) = let same : h f ≡ h k = ap h e in omega (arith, same, here, high)
    by (inr ne) = let at = old f (omega (arith, lt, ne)) in omega (arith, at, low)
