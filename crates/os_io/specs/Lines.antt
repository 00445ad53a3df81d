-- Lines of text, and the numbers in them.
use Rattle.std.specs.Prelude.{ℕ, List, [], ◌∷◌, ◌++◌, codes}
use Rattle.std.specs.Fmt.{decimal}

-- a text and its line feed
abbrev pub ended_line : List ℕ → List ℕ
ended_line text = text ++ 10 ∷ []

-- a number behind a space, without leading zeros
abbrev pub field : ℕ → List ℕ
field number = codes " " ++ decimal number
