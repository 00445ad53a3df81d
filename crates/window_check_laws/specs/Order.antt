-- Names in the order of the text, none of them left out.
use Rattle.std.specs.Prelude.{⊤, ℕ, ◌<◌, List, [], ◌∷◌}
use Rattle.os_ast.specs.declared.names.Resolved.{Resolved}

abbrev pub IsBelowNext : ℕ → List Resolved → Type 0
IsBelowNext place [] = ⊤
IsBelowNext place (r ∷ rs) = (place < r.place) × IsBelowNext r.place rs

-- each place is below the next one
abbrev pub InOrder : List Resolved → Type 0
InOrder [] = ⊤
InOrder (r ∷ rs) = IsBelowNext r.place rs
