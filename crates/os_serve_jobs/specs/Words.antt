-- The words of a line.
use Rattle.std.specs.Prelude.{ℕ, Bool, true, false, List, [], ◌∷◌, All, ◌==◌, ◌||◌, filter}
use Rattle.std.specs.List.{slice_split}
use Rattle.std.specs.Str.{IsUtf8}

-- a space, a tab, a carriage return or a line feed
abbrev pub is_blank : ℕ → Bool
is_blank byte = (byte == 32) || (byte == 9) || (byte == 13) || (byte == 10)

-- whether a piece has any byte, so that it is a word
abbrev pub is_some : List ℕ → Bool
is_some [] = false
is_some (byte ∷ bytes) = true

-- the bytes between blanks, as far as there are any
abbrev pub line_words : List ℕ → List (List ℕ)
line_words line = filter is_some (slice_split is_blank line)

-- The line is text: it is UTF-8. Since each blank is a character of its own, that is so where each word is.
abbrev pub IsText : List ℕ → Type 0
IsText line = All IsUtf8 (line_words line)
