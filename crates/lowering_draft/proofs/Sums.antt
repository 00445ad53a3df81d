-- Sums that stop at the greatest number.
use Rattle.std.proofs.Common.{◌≡◌, ℕ, ◌+◌, ◌-◌, ◌^◌, ◌≤◌, arith}
use Rattle.lowering_draft.specs.Emission.Units.{capped}

-- a sum of two that were stopped
pub capped_sum : (a b : ℕ) → capped (capped a + capped b) ≡ capped (a + b)
capped_sum a b = omega arith

-- the sum of all of some parts
pub sum_done : (sum rest total : ℕ) → sum ≤ 2 ^ 32 - 1 → rest ≡ 0 → capped (sum + rest) ≡ capped total → sum ≡ capped total
sum_done sum rest total small none same = omega (arith, small, none, same)
