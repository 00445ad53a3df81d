-- Division and remainder.
use Rattle.std.proofs.Common.{◌≡◌, ℕ, zero, suc, ◌%◌, ◌<◌, Bool, true, false, if◌then◌else◌, refl, ap, ◌∙◌, sym, arith, ℤ, pos, negsuc, ◌+ℤ◌, ◌-ℤ◌, ◌*ℤ◌, ◌≤ℤ◌, Ok, Err}
use Rattle.std.specs.Prelude.{int_div, int_rem, unsigned_abs, neg_ℤ}
use Rattle.std.proofs.lemmas.Int.{quot-rem, rem_below}
use Rattle.std.proofs.Math.Nat.{mod-le}
use Rattle.std.proofs.Math.Dec.{le→leb, leb→le}
use Rattle.c_int.specs.Laws.{HasSignOf, DivisionFits}
use Rattle.c_int.specs.Operators.{is_int, is_zero, quotient, remainder}
use Rattle.c_int.specs.declared.trap.OperatorTrap.TheVariants.{Overflow, DivisorZero}

given : (zero' whole : Bool) {k m q r : ℤ} → (if zero' then Err DivisorZero else if whole then Ok k else Err Overflow) ≡ Ok q →
    (if zero' then Err DivisorZero else if whole then Ok m else Err Overflow) ≡ Ok r → (zero' ≡ false) × (k ≡ q) × (m ≡ r)
given true whole e f = absurd (cc)
given false false e f = absurd (cc)
given false true e f = (refl, cc, cc)

positive : (b : ℤ) → is_zero b ≡ false → 0 < unsigned_abs b
positive (pos zero) h = absurd (cc)
positive (pos (suc n)) h = omega arith
positive (negsuc n) h = omega arith

negated : (n : ℕ) → neg_ℤ (pos n) ≤ℤ pos 0
negated zero = record { le = tt }
negated (suc n) = record { le = tt }

signed : (a b : ℤ) → HasSignOf (int_rem a b) a
signed (pos a) b = record {
  not_negative = λ h. record { le = le→leb 0 (a % unsigned_abs b) (omega arith) };
  not_positive = λ h. let none = leb→le a 0 h.le in let l = mod-le a (unsigned_abs b) in record { le = le→leb (a % unsigned_abs b) 0 (omega (arith, l, none)) };
}
signed (negsuc a) b = record { not_negative = λ h. absurd h.le; not_positive = λ h. negated (suc a % unsigned_abs b) }

pub fits : (a b q r : ℤ) → quotient a b ≡ Ok q → remainder a b ≡ Ok r → DivisionFits a b q r
fits a b q r e f =
    let g = given (is_zero b) (is_int (int_div a b)) e f in
    let left = quot-rem a b in
    let is : int_rem a b ≡ a -ℤ (int_div a b *ℤ b) = grind (arith, left) in
    let rest : int_rem a b ≡ r = is ∙ g.2 in
    record {
      makes_the_dividend = ap (λ x. x *ℤ b +ℤ r) (sym g.1) ∙ ap (λ x. int_div a b *ℤ b +ℤ x) (sym rest) ∙ left;
      smaller_than_the_divisor = rw (sym rest) (rem_below a b (positive b g.0));
      sign_of_the_dividend = rw (sym rest) (signed a b);
    }
