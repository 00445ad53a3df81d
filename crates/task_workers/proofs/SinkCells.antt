-- How long a range of a list is.
use Rattle.std.proofs.Common.{◌≡◌, ◌≤◌, ◌+◌, ◌-◌, ℕ, List, length, drop, slice_range, ◌∙◌, arith}
use Rattle.std.proofs.lemmas.List.{length-drop, length-take-le}

pub length-slice_range : {X : Type 0} (xs : List X) (first count : ℕ) → first + count ≤ length xs → length (slice_range xs first (first + count)) ≡ count
length-slice_range xs first count fits =
    length-take-le ((first + count) - first) (drop first xs) (omega (arith, length-drop first xs, fits)) ∙ omega (arith)
