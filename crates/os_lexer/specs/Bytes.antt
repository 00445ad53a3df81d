-- The classes of bytes, and bytes at their points in a slice.
use Rattle.std.specs.Prelude.{◌≡◌, ℕ, ◌+◌, ◌≤◌, Bool, ◌&&◌, ◌||◌, List, length, nat_le, ◌==◌, slice_index}

-- white space is space, tab, carriage return, line feed, vertical tab and form feed
abbrev pub is_white : ℕ → Bool
is_white b = b == 32 || b == 9 || b == 13 || b == 10 || b == 11 || b == 12

-- between `#` and its word stand spaces and tabs
abbrev pub is_blank : ℕ → Bool
is_blank b = b == 32 || b == 9

-- what ends a line
abbrev pub is_line_feed : ℕ → Bool
is_line_feed b = b == 10

-- `0` to `9`
abbrev pub is_digit : ℕ → Bool
is_digit b = nat_le 48 b && nat_le b 57

-- `A` to `Z`, `a` to `z` and `_`
abbrev pub is_letter : ℕ → Bool
is_letter b = (nat_le 65 b && nat_le b 90) || (nat_le 97 b && nat_le b 122) || b == 95

-- what words and numbers are made of
abbrev pub is_word_byte : ℕ → Bool
is_word_byte b = is_letter b || is_digit b

-- the two bytes from point i on are a and b
pub record IsPairAt (s : List ℕ) (i a b : ℕ) : Type 0 where
  pub within : i + 2 ≤ length s
  pub first : slice_index s i ≡ a
  pub second : slice_index s (i + 1) ≡ b
