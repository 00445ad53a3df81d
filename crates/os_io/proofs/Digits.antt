-- What decimals look like, and that what is read of one is its number.
use Rattle.std.proofs.Common.{◌≡◌, ℕ, zero, suc, ◌^◌, ◌<◌, ◌⊎◌, inl, inr, List, [], ◌∷◌, length, get_or, drop, Bool, cond, Result, Ok, subst, sym, ap, ◌∙◌, arith}
use Rattle.std.specs.Fmt.{decimal}
use Rattle.std.specs.Str.{IsUtf8}
use Rattle.std.specs.Str.Parse.{ParsesUnsigned, IsNumeral, digits_value, without_leading_plus}
use Rattle.std.proofs.lemmas.Bool.{ne_eqb}
use Rattle.std.proofs.lemmas.Fmt.{first_decimal, decimal_digit, decimal_is_IsNumeral, decimal-digits_value, parse-decimal, IsAscii-decimal}
use Rattle.std.proofs.lemmas.Str.{IsUtf8-from_ascii}
use Rattle.std.proofs.lemmas.Str.Parse.{numerals_by_value, tells_digits}

-- a decimal begins with a digit that isn't zero, or is zero
first_digit : (n : ℕ) → n < 2 ^ 32 → (48 < get_or (decimal n) 0 0) ⊎ (decimal n ≡ 48 ∷ [])
first_digit zero small = inr (decimal_digit 0 (omega arith))
first_digit (suc n) small = inl (first_decimal (suc n) (omega arith) (omega arith))

module _ (digits : List ℕ) (n : ℕ) (small : n < 2 ^ 32) (is : digits ≡ decimal n) where
  pub not_empty : 0 < length digits
  not_empty = subst (λ (ds : List ℕ). 0 < length ds) (sym is) (decimal_is_IsNumeral n (omega arith)).0.0

  pub no_plus : get_or digits 0 0 ≡ 43 → ⊥
  no_plus first = by_case (first_digit n small) (ap (λ (ds : List ℕ). get_or ds 0 0) (sym is) ∙ first)
    where
      by_case : (48 < get_or (decimal n) 0 0) ⊎ (decimal n ≡ 48 ∷ []) → get_or (decimal n) 0 0 ≡ 43 → ⊥
      by_case (inl more) f = omega (arith, more, f)
      by_case (inr one) f = let z : 48 ≡ 43 = sym (ap (λ (ds : List ℕ). get_or ds 0 0) one) ∙ f in omega (arith, z)

  pub no_padding : get_or digits 0 0 ≡ 48 → length digits ≡ 1
  no_padding first = by_case (first_digit n small) (ap (λ (ds : List ℕ). get_or ds 0 0) (sym is) ∙ first)
    where
      by_case : (48 < get_or (decimal n) 0 0) ⊎ (decimal n ≡ 48 ∷ []) → get_or (decimal n) 0 0 ≡ 48 → length digits ≡ 1
      by_case (inl more) f = absurd (omega (arith, more, f))
      by_case (inr one) f = ap length is ∙ ap length one

  pub is_text : IsUtf8 digits
  is_text = subst IsUtf8 (sym is) (IsUtf8-from_ascii (decimal n) (IsAscii-decimal n (omega arith)))

  pub is_read : {E : Type 0} (r : Result ℕ E) → ParsesUnsigned 32 10 digits r → r ≡ Ok n
  is_read r parses = parse-decimal 32 n digits r small (omega arith) is parses

without_plus : (digits : List ℕ) → (get_or digits 0 0 ≡ 43 → ⊥) → without_leading_plus digits ≡ digits
without_plus digits plus = ap (λ (b : Bool). drop (cond b 1 0) digits) (ne_eqb (get_or digits 0 0) 43 plus)

-- digits without a plus in front, and without zeros in front of others, are the decimal of what is read of them
pub are_decimal : (digits : List ℕ) (n : ℕ) → (get_or digits 0 0 ≡ 43 → ⊥) → (get_or digits 0 0 ≡ 48 → length digits ≡ 1)
    → (IsNumeral 10 (without_leading_plus digits) × (digits_value 10 (without_leading_plus digits) < 2 ^ 32)) × (n ≡ digits_value 10 (without_leading_plus digits))
    → (n < 2 ^ 32) × (digits ≡ decimal n)
are_decimal digits n plus padding parses =
    let same = without_plus digits plus in
    let numeral : IsNumeral 10 digits = subst (IsNumeral 10) same parses.0.0 in
    let value : n ≡ digits_value 10 digits = parses.1 ∙ ap (digits_value 10) same in
    let small : n < 2 ^ 32 = omega (arith, parses.0.1, parses.1) in
    (small, sym (decimal-digits_value (numerals_by_value _ tells_digits) digits numeral.1 numeral.0 padding (omega (arith, small, value))) ∙ ap decimal (sym value))
