-- Numbers whose digits are octal.
use Rattle.std.specs.Prelude.{◌≡◌, ◌+◌, ◌<◌, ◌≤◌, ◌⊎◌, ℕ, List, Some}
use Rattle.std.specs.List.{slice_get}
use Rattle.os_lexer.specs.declared.token.Kind.TheVariants as kind
use Rattle.os_lexer.specs.declared.token.Token.{Token}

-- a number of either type other than 0
abbrev pub IsValued : Token → Type 0
IsValued token = (n : ℕ) × (0 < n) × ((token.kind ≡ kind.Number n) ⊎ (token.kind ≡ kind.Wide n))

-- A number other than 0 begins with `0`, behind which a digit stands, in the bytes of a text.
abbrev pub IsOctal : List ℕ → Token → Type 0
IsOctal text token =
    IsValued token × (slice_get text token.start ≡ Some 48)
    × ((digit : ℕ) × (slice_get text (token.start + 1) ≡ Some digit) × (48 ≤ digit) × (digit ≤ 57))
