-- The output that a case wants.
use Rattle.std.specs.Prelude.{ℕ, Bool, List, Option, Some, None, Result, Ok, Err, codes, drop, length, if◌then◌else◌, string_bytes, take}
use Rattle.std.specs.Str.{bytes_eq}
use Rattle.hex.specs.Hex.{decode_sized}
use Rattle.hex.specs.declared.error.FromHexError.{FromHexError}
use Rattle.osvectors_cases.specs.declared.wanted.Wanted.{Wanted as Lent}
use Rattle.osvectors_cases.specs.declared.wanted.Wanted.TheVariants as lent

-- a word, as bytes
abbrev pub Text : Type 0
Text = List ℕ

-- the wanted output: the bytes of the file with a name, or all bytes with a SHA-256 sum
pub data WantedOutput : Type 0 where
  file : Text → WantedOutput
  sum : List ℕ → WantedOutput

-- what stands before a sum
abbrev pub sum_mark : Text
sum_mark = codes "sha256:"

-- how many bytes a sum has
abbrev pub sum_size : ℕ
sum_size = 32

-- a sum that was read from digits, if they are one
abbrev pub sum_of_digits : Result (List ℕ) FromHexError → Option WantedOutput
sum_of_digits (Ok bytes) = Some (sum bytes)
sum_of_digits (Err error) = None

-- the word begins with the mark of a sum
abbrev pub has_mark : Text → Bool
has_mark word = bytes_eq (take (length sum_mark) word) sum_mark

-- What a word wants: behind the mark of a sum 64 hex digits, of either case, and else the name of a file.
abbrev pub wanted_in : Text → Option WantedOutput
wanted_in word = if has_mark word then sum_of_digits (decode_sized (drop (length sum_mark) word) sum_size) else Some (file word)

-- ---- what the code's values show

abbrev pub wanted_of : Lent → WantedOutput
wanted_of (lent.File name) = file (string_bytes name)
wanted_of (lent.Sum bytes) = sum bytes
