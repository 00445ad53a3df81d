-- Slots of scalars of the control program, as the code collects them.
use Rattle.std.specs.Prelude.{ℕ, List, [], ◌∷◌, Option, Some}
use Rattle.std.specs.BTreeSet.{insert_key}
use Rattle.std.specs.Ordering.{nat_cmp}
use Rattle.os_ast.specs.Names.{lookup, entity_of}
use Rattle.os_ast.specs.Notes.Kinds.{Note, Used}
use Rattle.os_ast.specs.declared.names.Entity.{Entity}
use Rattle.os_ast.specs.declared.names.Entity.TheVariants as entity

-- ascending slots with one more
abbrev pub with_slot : ℕ → List ℕ → List ℕ
with_slot slot slots = insert_key nat_cmp slots slot

-- slots with several more
abbrev pub with_slots : List ℕ → List ℕ → List ℕ
with_slots [] slots = slots
with_slots (x ∷ xs) slots = with_slots xs (with_slot x slots)

-- the slot of what a name is declared as, where it is a scalar of the control program
abbrev pub control_slots : Option Entity → List ℕ
control_slots (Some (entity.Control slot)) = slot ∷ []
control_slots (Some entity.InputLength) = 0 ∷ []
control_slots _ = []

-- the slot that a used name names
abbrev pub named_slots : Note → List ℕ
named_slots (Used s n u) = control_slots (entity_of (lookup s.entries n.id))
named_slots _ = []
