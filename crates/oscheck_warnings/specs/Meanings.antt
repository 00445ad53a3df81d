-- What the name at a place means.
use Rattle.std.specs.Prelude.{◌≡◌, ◌==◌, ℕ, if◌then◌else◌, List, [], ◌∷◌, Option, Some, None}
use Rattle.std.specs.BTreeMap.{get}
use Rattle.std.specs.Ordering.{nat_cmp}
use Rattle.os_ast.specs.declared.names.Resolved.{Resolved}
use Rattle.os_ast.specs.declared.names.What.{What}
use Rattle.oscheck_warnings.specs.declared.meanings.Meanings.{Meanings}

-- what a place means behind some names, where it meant this before them
abbrev pub meaning_behind : Option What → List Resolved → ℕ → Option What
meaning_behind before [] place = before
meaning_behind before (n ∷ ns) place = meaning_behind (if n.place == place then Some n.what else before) ns place

-- By a list of names with their places, at each of which one name stands: where there were more, the last would count.
abbrev pub meaning_at : List Resolved → ℕ → Option What
meaning_at names place = meaning_behind None names place

-- what a place means by the map
abbrev pub what_at : Meanings → ℕ → Option What
what_at m place = get nat_cmp m.by_place place

-- The map has exactly what these names mean.
abbrev pub AreMeanings : List Resolved → Meanings → Type 0
AreMeanings names m = (place : ℕ) → what_at m place ≡ meaning_at names place
