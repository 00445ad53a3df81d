-- What follows from the operators' definitions, for every operand.
use Rattle.std.specs.Prelude.{◌≡◌, ◌<◌, ℤ, pos, ◌+ℤ◌, ◌*ℤ◌, ◌≤ℤ◌, Ok, unsigned_abs}
use Rattle.c_int.specs.Operators.{quotient, remainder}

-- a number is 0, or has the sign of another one
pub record HasSignOf (b a : ℤ) : Type 0 where
  pub not_negative : pos 0 ≤ℤ a → pos 0 ≤ℤ b
  pub not_positive : a ≤ℤ pos 0 → b ≤ℤ pos 0

-- `/` and `%` fit each other: the quotient times the divisor and the remainder make the dividend; the remainder is
-- smaller than the divisor, and it has the sign of the dividend. (C11, 6.5.5, 6)
pub record DivisionFits (a b q r : ℤ) : Type 0 where
  pub makes_the_dividend : q *ℤ b +ℤ r ≡ a
  pub smaller_than_the_divisor : unsigned_abs r < unsigned_abs b
  pub sign_of_the_dividend : HasSignOf r a

abbrev pub DivisionsFit : Type 0
DivisionsFit = (a b q r : ℤ) → quotient a b ≡ Ok q → remainder a b ≡ Ok r → DivisionFits a b q r
