-- What `%` gives where `/` gives something.
use Rattle.std.proofs.Common.{◌≡◌, ◌<◌, ◌^◌, Bool, true, false, if◌then◌else◌, ap, arith, ℤ, pos, negsuc, ◌-ℤ◌, ◌*ℤ◌, Ok, Err}
use Rattle.std.specs.Prelude.{int_div, int_rem}
use Rattle.std.specs.Int.Signed.{mag, mag_rem}
use Rattle.std.proofs.lemmas.Int.{quot-rem}
use Rattle.std.proofs.lemmas.Bool.{lt-ltb}
use Rattle.c_int.specs.Operators.{fitting, is_int, is_zero, quotient, remainder}
use Rattle.c_int.specs.declared.trap.OperatorTrap.TheVariants.{Overflow, DivisorZero}

pub small : (z : ℤ) → mag z < 2 ^ 31 → is_int z ≡ true
small (pos a) h = lt-ltb _ _ h
small (negsuc a) h = lt-ltb _ _ h

by_tests : (zero' whole fits : Bool) {q r m : ℤ} (k : ℤ) → Ok q ≡ (if zero' then Err DivisorZero else if whole then Ok k else Err Overflow) → fits ≡ true → r ≡ m →
    (if fits then Ok r else Err Overflow) ≡ (if zero' then Err DivisorZero else if whole then Ok m else Err Overflow)
by_tests true whole fits k e h p = absurd (cc)
by_tests false false fits k e h p = absurd (cc)
by_tests false true fits k e h p = rw h (ap Ok p)

-- what `/` leaves
pub remainder_behind : (a b q : ℤ) → mag a < 2 ^ 31 → Ok q ≡ quotient a b → fitting Overflow (int_rem a b) ≡ remainder a b
remainder_behind a b q small_a e =
    let bound = mag_rem a b in
    let left = quot-rem a b in
    let is : int_rem a b ≡ a -ℤ (int_div a b *ℤ b) = grind (arith, left) in
    by_tests (is_zero b) (is_int (int_div a b)) (is_int (int_rem a b)) (int_div a b) e (small (int_rem a b) (omega (arith, bound, small_a))) is
