-- Lines of a text. A line is ended by a line feed, or by the end of the text.
use Rattle.std.specs.Prelude.{◌≡◌, ◌≢◌, ℕ, ◌+◌, ◌-◌, ◌<◌, ◌≤◌, Bool, List, [], ◌∷◌, length, slice_index, take, drop, if◌then◌else◌}
use Rattle.std.specs.Int.{is_in_range}

-- no line feed stands from one point up to another
abbrev pub IsOneLine : List ℕ → ℕ → ℕ → Type 0
IsOneLine text from to = (i : ℕ) → from ≤ i → i < to → slice_index text i ≢ 10

-- a line begins at a point: it is the front of the text, or a line feed stands before it
abbrev pub BeginsLine : List ℕ → ℕ → Type 0
BeginsLine text point = 0 < point → slice_index text (point - 1) ≡ 10

-- a line ends at a point: it is the end of the text, or a line feed stands there
abbrev pub EndsLine : List ℕ → ℕ → Type 0
EndsLine text point = point < length text → slice_index text point ≡ 10

-- the column of a point: how many bytes of its line stand before it, and one more
pub record IsColumn (text : List ℕ) (point column : ℕ) : Type 0 where
  pub start : ℕ
  pub begins : BeginsLine text start
  pub within : start ≤ point
  pub one_line : IsOneLine text start point
  pub counted : column ≡ point - start + 1

-- a byte goes on with a character of UTF-8 that began before it
abbrev pub goes_on : ℕ → Bool
goes_on byte = is_in_range 128 191 byte

-- how many characters begin with a byte
abbrev pub begun : ℕ → ℕ
begun byte = if goes_on byte then 0 else 1

-- how many begin among some bytes
abbrev pub characters : List ℕ → ℕ
characters [] = 0
characters (byte ∷ bytes) = begun byte + characters bytes

-- the column of a point in characters: how many of its line begin before it, and one more
pub record IsCharacterColumn (text : List ℕ) (point column : ℕ) : Type 0 where
  pub start : ℕ
  pub begins : BeginsLine text start
  pub within : start ≤ point
  pub one_line : IsOneLine text start point
  pub counted : column ≡ characters (take (point - start) (drop start text)) + 1
