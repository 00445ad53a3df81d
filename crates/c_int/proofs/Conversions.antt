-- Conversions between the types of values.
use Rattle.std.proofs.Common.{◌≡◌, ℕ, ◌-◌, ◌%◌, ◌^◌, ◌<◌, ◌≤◌, Bool, true, false, refl, ap, ◌∙◌, sym, arith, ℤ, pos, negsuc, w32, ltb}
use Rattle.std.specs.Prelude.{unsigned_abs}
use Rattle.std.specs.Int.RustNames.{FitsSigned}
use Rattle.std.proofs.lemmas.Int.{of_z-to_z, to_z-of_z}
use Rattle.std.proofs.lemmas.Bool.{ltb-true, lt-ltb}
use Rattle.std.proofs.Math.Nat.{mod-eq_of_lt}
use native.Mathlib.Nat.{mod-lt}
use Rattle.c_int.specs.Operators.{is_int}
use Rattle.c_int.specs.Typed.{is_unsigned, is_of, converted}
use Rattle.c_int.specs.Unsigned.{word, signed}

-- numbers of `int` fit 32 bits
pub fits : (z : ℤ) → is_int z ≡ true → FitsSigned w32 z
fits (pos n) h = record { sfits = ltb-true _ _ h }
fits (negsuc n) h = record { sfits = ltb-true _ _ h }

-- an `int` modulo 2^32 has its bits
pub modulo : (z : ℤ) → is_int z ≡ true → converted true z ≡ pos (word z)
modulo (pos n) h = let l : n < 2 ^ 31 = ltb-true _ _ h in ap pos (mod-eq_of_lt (omega arith))
modulo (negsuc n) h = let l : n < 2 ^ 31 = ltb-true _ _ h in let e : n % (2 ^ 32) ≡ n = mod-eq_of_lt (omega arith) in ap pos (omega arith)

pub same_int : (z : ℤ) → is_int z ≡ true → converted false z ≡ z
same_int z h = ap (λ m. signed (unsigned_abs m)) (modulo z h) ∙ to_z-of_z w32 z (fits z h)

-- a number modulo 2^32 is one of `unsigned`, and keeps its bits
pub reduced : (z : ℤ) → (n : ℕ) × (converted true z ≡ pos n) × (n < 2 ^ 32)
reduced (pos n) = (n % (2 ^ 32), refl, mod-lt n (omega arith))
reduced (negsuc n) = (2 ^ 32 - 1 - n % (2 ^ 32), refl, omega arith)

pub again : (z : ℤ) → converted false (converted true z) ≡ converted false z
again z =
    let r = reduced z in
    ap (converted false) r.1 ∙ ap signed (mod-eq_of_lt r.2) ∙ sym (ap (λ m. signed (unsigned_abs m)) r.1)

-- the bits of a value are an `int`, and it is converted to `unsigned` as they are
pub word_of : (u : Bool) (z : ℤ) → is_of u z ≡ true → converted true z ≡ pos (word (converted false z))
word_of false z h = modulo z h ∙ ap (λ x. pos (word x)) (sym (same_int z h))
word_of true (pos n) h =
    let l : n < 2 ^ 32 = ltb-true _ _ h in
    let e : n % (2 ^ 32) ≡ n = mod-eq_of_lt l in
    ap pos (e ∙ sym (of_z-to_z w32 n l) ∙ ap (λ m. word (signed m)) (sym e))
word_of true (negsuc n) h = absurd (cc)

pub same_unsigned : (z : ℤ) → is_unsigned z ≡ true → converted true z ≡ z
same_unsigned (pos n) h = ap pos (mod-eq_of_lt (ltb-true _ _ h))
same_unsigned (negsuc n) h = absurd (cc)

-- bits of numbers below 2^32
pub bits_of : (n : ℕ) → n < 2 ^ 32 → converted false (pos n) ≡ signed n
bits_of n h = ap signed (mod-eq_of_lt h)

pub is_int_signed : (n : ℕ) → n < 2 ^ 32 → is_int (signed n) ≡ true
is_int_signed n h = by (ltb n (2 ^ 31)) refl
  where
    by : (t : Bool) → ltb n (2 ^ 31) ≡ t → is_int (signed n) ≡ true
    by true e = rw e e
    by false e = rw e (lt-ltb _ _ (let far : 2 ^ 31 ≤ n = grind (arith, e) in omega arith))

-- the bits of every number are an `int`
pub is_int_bits : (z : ℤ) → is_int (converted false z) ≡ true
is_int_bits z = let r = reduced z in rw r.1 (is_int_signed r.0 r.2)

pub word_below : (z : ℤ) → is_int z ≡ true → word z < 2 ^ 32
word_below (pos n) h = let l : n < 2 ^ 31 = ltb-true _ _ h in omega arith
word_below (negsuc n) h = omega arith
