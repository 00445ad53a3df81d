-- The forms of numbers, their values, and the types that they may have (C11, 6.4.4.1).
use Rattle.std.specs.Prelude.{ℕ, ◌+◌, ◌-◌, ◌*◌, Bool, not, ◌&&◌, ◌||◌, List, [], ◌∷◌, length, take, Option}
use Rattle.std.specs.Prelude.{Some, None, fold, nat_le, nat_lt, ◌==◌, slice_index, if◌then◌else◌}
use Rattle.std.specs.List.{list_all}
use Rattle.os_lexer.specs.Bytes.{is_digit}

-- `0` to `7`
abbrev pub is_octal_digit : ℕ → Bool
is_octal_digit b = nat_le 48 b && nat_le b 55

-- `0` to `9`, `A` to `F` and `a` to `f`
abbrev pub is_hexadecimal_digit : ℕ → Bool
is_hexadecimal_digit b = is_digit b || (nat_le 65 b && nat_le b 70) || (nat_le 97 b && nat_le b 102)

-- what a digit counts
abbrev pub digit_value : ℕ → ℕ
digit_value b = if nat_lt b 65 then b - 48 else (if nat_lt b 97 then b - 55 else b - 87)

-- the number that digits stand for in a base
abbrev pub value_in : ℕ → List ℕ → ℕ
value_in base digits = fold (λ value digit. value * base + digit_value digit) 0 digits

-- the value of digits in a base, if all are digits of the base
abbrev pub value_if_all : (ℕ → Bool) → ℕ → List ℕ → Option ℕ
value_if_all is_digit_of_base base digits = if list_all is_digit_of_base digits then Some (value_in base digits) else None

-- `0x` or `0X` is followed by hexadecimal digits, at least one
abbrev pub hexadecimal_value : List ℕ → Option ℕ
hexadecimal_value [] = None
hexadecimal_value (b ∷ rest) = value_if_all is_hexadecimal_digit 16 (b ∷ rest)

-- `0` stands alone, or is followed by octal digits
abbrev pub value_after_zero : List ℕ → Option ℕ
value_after_zero [] = Some 0
value_after_zero (b ∷ rest) = if b == 120 || b == 88 then hexadecimal_value rest else value_if_all is_octal_digit 8 (b ∷ rest)

-- A decimal number has no leading zero. The value of a number without a suffix, if it is of a form.
abbrev pub plain_value : List ℕ → Option ℕ
plain_value [] = None
plain_value (b ∷ rest) = if b == 48 then value_after_zero rest else value_if_all is_digit 10 (b ∷ rest)

-- a run ends in `u` or `U`, the suffix of numbers that are `unsigned`
abbrev pub has_suffix : List ℕ → Bool
has_suffix bytes = slice_index bytes (length bytes - 1) == 117 || slice_index bytes (length bytes - 1) == 85

-- A number may have that suffix, and no other one. The value of a run that begins with a digit, if it is a number: it is that of
-- the run without its suffix.
abbrev pub number_value : List ℕ → Option ℕ
number_value bytes = plain_value (if has_suffix bytes then take (length bytes - 1) bytes else bytes)

-- a number that doesn't begin with `0` is decimal
abbrev pub is_decimal : List ℕ → Bool
is_decimal bytes = not (slice_index bytes 0 == 48)

-- The type of a number is the first that its value fits, of those that it may have: `int`, where it has no suffix, and then
-- `unsigned`, where it has one or isn't decimal. What C has behind these, as `long`, the language hasn't.
abbrev pub may_be_int : List ℕ → Bool
may_be_int bytes = not (has_suffix bytes)

abbrev pub may_be_unsigned : List ℕ → Bool
may_be_unsigned bytes = has_suffix bytes || not (is_decimal bytes)
