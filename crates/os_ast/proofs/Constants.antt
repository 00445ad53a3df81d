-- The 32 bits of constants.
use Rattle.std.proofs.Common.{◌≡◌, ℕ, ◌-◌, ◌%◌, ◌^◌, ◌<◌, Bool, true, false, if◌then◌else◌, refl, ap, sym, ◌∙◌, arith, ℤ, pos, w32}
use Rattle.std.specs.Prelude.{unsigned_abs, neg_ℤ}
use Rattle.std.specs.Int.{cast_signed, int_rem_euclid, int_wrapping_neg}
use Rattle.std.proofs.lemmas.Int.{ints, int_rem_euclid_is, of_z-to_z}
use Rattle.std.proofs.Math.Nat.{mod-eq_of_lt}
use Rattle.os_ast.specs.Names.{constant_value}
use Rattle.os_ast.specs.declared.program.Constant.{Constant}

-- the bits of a number
abbrev bits_of : ℤ → ℤ
bits_of z = cast_signed w32 (unsigned_abs (int_rem_euclid z (pos (2 ^ 32))))

negated : (n : ℕ) → n < 2 ^ 32 → int_wrapping_neg w32 (cast_signed w32 n) ≡ bits_of (neg_ℤ (pos n))
negated n l =
    ap (λ m. cast_signed w32 ((2 ^ 32 - m) % 2 ^ 32)) (of_z-to_z w32 n l)
    ∙ ap (λ m. cast_signed w32 (unsigned_abs m)) (sym (int_rem_euclid_is (neg_ℤ (pos n)) (pos (2 ^ 32)) (2 ^ 32) 1 (2 ^ 32 - n) (omega arith) refl (omega (arith, ints))))

pub minus-bits : (c : Constant) (x r : ℤ) → c.size < 2 ^ 32 → c.minus ≡ true → x ≡ cast_signed w32 c.size → r ≡ int_wrapping_neg w32 x → r ≡ constant_value c
minus-bits c x r l on e f =
    f ∙ ap (int_wrapping_neg w32) e ∙ negated c.size l ∙ ap (λ (b : Bool). bits_of (if b then neg_ℤ (pos c.size) else pos c.size)) (sym on)

pub plain-bits : (c : Constant) (x : ℤ) → c.size < 2 ^ 32 → c.minus ≡ false → x ≡ cast_signed w32 c.size → x ≡ constant_value c
plain-bits c x l off e =
    e ∙ ap (cast_signed w32) (sym (mod-eq_of_lt l)) ∙ ap (λ (b : Bool). bits_of (if b then neg_ℤ (pos c.size) else pos c.size)) (sym off)

pub ruleset constant_bits = (minus-bits, plain-bits)
