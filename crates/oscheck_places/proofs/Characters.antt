-- Characters of texts that are joined.
use Rattle.std.proofs.Common.{◌≡◌, ◌∙◌, ◌+◌, ◌++◌, ◌∷◌, ◌<◌, [], ℕ, List, ap, arith, get_or, length, take}
use Rattle.std.proofs.lemmas.List.{take_more}
use Rattle.oscheck_places.specs.Lines.{begun, characters}

characters-append : (xs : List ℕ) (x : ℕ) → characters (xs ++ x ∷ []) ≡ characters xs + begun x
characters-append [] x = omega arith
characters-append (y ∷ xs) x =
    let rest = characters-append xs x in
    omega (arith, rest)

-- one more byte
pub one_more : (xs : List ℕ) (i : ℕ) → i < length xs → characters (take (i + 1) xs) ≡ characters (take i xs) + begun (get_or xs i 0)
one_more xs i within = ap characters (take_more xs i 0 within) ∙ characters-append (take i xs) (get_or xs i 0)
