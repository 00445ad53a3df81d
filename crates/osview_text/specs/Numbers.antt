-- What is told of several numbers.
use Rattle.std.specs.Prelude.{ℕ, List, [], ◌∷◌, fold, min}

-- the least of some numbers; 0 where there is none
abbrev pub least : List ℕ → ℕ
least [] = 0
least (n ∷ ns) = fold min n ns
