-- How long the numbers of headings are.
use Rattle.std.proofs.Common.{ℕ, ◌<◌, ◌≤◌, ◌^◌, arith, length}
use Rattle.std.specs.Fmt.{decimal}
use Rattle.std.proofs.lemmas.Fmt.{length-decimal-le}

-- a number of 32 bits has ten digits at most
pub ten : (n : ℕ) → n < 2 ^ 32 → length (decimal n) ≤ 10
ten n small = length-decimal-le 10 n (omega arith) (omega (arith, small)) (omega (arith, small))

-- a byte has three
pub three : (n : ℕ) → n < 2 ^ 8 → length (decimal n) ≤ 3
three n small = length-decimal-le 3 n (omega arith) (omega (arith, small)) (omega (arith, small))
