-- Names in the order of their places, by index.
use Rattle.std.specs.Prelude.{ℕ, ◌<◌, false, List, length, slice_index_or, pos}
use Rattle.os_ast.specs.declared.names.Resolved.{Resolved}
use Rattle.os_ast.specs.declared.names.What.TheVariants as what

abbrev pub name_at : List Resolved → ℕ → Resolved
name_at names i = slice_index_or names i (record { place = 0; what = what.Constant (pos 0); unsigned = false })

-- of two names the one that stands first has the smaller place
abbrev pub Ascends : List Resolved → Type 0
Ascends names = (i j : ℕ) → i < j → j < length names → (name_at names i).place < (name_at names j).place
