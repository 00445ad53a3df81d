-- The slots in `main` of the scalars that a task's body uses, by what stands in it, each use in its own scope.
use Rattle.std.specs.Prelude.{⊤, ℕ, ◌+◌, ◌≤◌, List, [], ◌∷◌, ◌++◌}
use Rattle.os_ast.specs.Names.{lookup, entity_of}
use Rattle.os_ast.specs.Notes.Kinds.{Note}
use Rattle.os_ast.specs.declared.names.Entry.{Entry}
use Rattle.window_check_laws.specs.Slots.{control_slots, named_slots}

-- the slots that used names mean
abbrev pub used_slots : List Note → List ℕ
used_slots [] = []
used_slots (n ∷ ns) = named_slots n ++ used_slots ns

-- the slots that names mean where `es` is in scope
abbrev pub slots_named : List Entry → List ℕ → List ℕ
slots_named es [] = []
slots_named es (id ∷ ids) = control_slots (entity_of (lookup es id)) ++ slots_named es ids

-- strictly increasing, from a number on
abbrev pub Ascends : ℕ → List ℕ → Type 0
Ascends lo [] = ⊤
Ascends lo (x ∷ xs) = (lo ≤ x) × Ascends (x + 1) xs
