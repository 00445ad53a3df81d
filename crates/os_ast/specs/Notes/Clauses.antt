-- The clauses of tasks.
use Rattle.std.specs.Prelude.{ℕ, suc, Bool, if◌then◌else◌, List, [], ◌∷◌, ◌++◌, length, Option, Some, None}
use Rattle.std.specs.Option.{option_map_or}
use Rattle.os_ast.specs.Captured.{captured, slots_of}
use Rattle.os_ast.specs.Names.{Scope, is_main_body, lookup, entity_of, flag_of, flagged, declare, enter, in_unit}
use Rattle.os_ast.specs.Notes.Expressions.{place_notes, index_notes}
use Rattle.os_ast.specs.Notes.Kinds.{Note, Used, Task, Listed}
use Rattle.os_ast.specs.ClauseMembers.{ClauseMember, Item, Private, target_name, item_name, member_name, count_items}
use Rattle.os_ast.specs.Trees as tree
use Rattle.os_ast.specs.declared.expr.Mark.{Mark}
use Rattle.os_ast.specs.declared.names.Owner.{Owner}
use Rattle.os_ast.specs.declared.names.Owner.TheVariants as owner
use Rattle.os_ast.specs.declared.names.Entity.{Entity}
use Rattle.os_ast.specs.declared.names.Entity.TheVariants as entity
use Rattle.os_ast.specs.declared.names.Direction.{Direction}
use Rattle.os_ast.specs.declared.names.Role.TheVariants as role
use Rattle.os_ast.specs.declared.names.Shape.{Shape}
use Rattle.os_ast.specs.declared.names.Shape.TheVariants as shape
use Rattle.os_ast.specs.declared.names.Use.TheVariants as usage

abbrev pub shape_of : Option tree.IndexTree → Shape
shape_of i = option_map_or (λ (i : tree.IndexTree). shape.Indexed) i shape.Bare

-- what stands behind the stream of an item
abbrev pub window_notes : Scope → List ℕ → tree.TargetTree → Option tree.JoinTree → List Note
window_notes s before stream None = Listed before (target_name stream) ∷ []
window_notes s before stream (Some j) = Listed before j.name ∷ Used s j.name (usage.Joined (shape_of j.burst)) ∷ index_notes s j.burst

-- a member, behind members of these names
abbrev pub member_notes : Scope → List ℕ → ClauseMember → List Note
member_notes s before (Item d i) = place_notes s (role.Flow d) i.stream ++ window_notes s before i.stream i.window
member_notes s before (Private n) = Listed before n ∷ Used s n usage.Private ∷ []

-- Expressions of clauses belong to what is round the task.
abbrev pub members_notes : Scope → List ℕ → List ClauseMember → List Note
members_notes s before [] = []
members_notes s before (p ∷ ps) = member_notes s before p ++ members_notes s ((member_name p).id ∷ before) ps

-- what an item's name is in the body, by its arrow and by what the name is round the task
abbrev pub named_entity : ℕ → Direction → Option tree.JoinTree → Option Entity → Entity
named_entity item d (Some j) (Some (entity.Window slot)) = entity.View item d
named_entity item d _ _ = entity.Element item d

-- In a task's body an item's name is a view, where it is a window, or else an element.
abbrev pub item_entity : Scope → ℕ → Direction → tree.ClauseItemTree → Entity
item_entity s item d i = named_entity item d i.window (entity_of (lookup s.entries (item_name i.stream i.window).id))

-- An item's name has the type of its scalar, or of its window's or stream's elements.
abbrev pub item_flag : Scope → tree.ClauseItemTree → Bool
item_flag s i = flag_of (lookup s.entries (item_name i.stream i.window).id)

-- the scope of the clauses, round the body; the items are looked up in the scope that is round the task
abbrev pub with_items : Scope → Scope → ℕ → List ClauseMember → Scope
with_items s inner item [] = inner
with_items s inner item (Item d i ∷ ps) =
    with_items s (declare (flagged (item_flag s i) inner) (item_name i.stream i.window).id (item_entity s item d i)) (suc item) ps
with_items s inner item (Private n ∷ ps) = with_items s inner item ps

-- the scope round a task's body, before the names of its items: the captured scalars have the first slots
abbrev pub in_task : Scope → List ℕ → Scope
in_task s slots = enter (record (in_unit owner.OfTask s) { captured = slots; slots = length slots })

-- The body of a task in `main` has the captured scalars. A task that stands anywhere else violates a rule.
abbrev pub captured_in : Owner → List ℕ → List ℕ
captured_in o slots = if is_main_body o then slots else []

-- the scope in which a task's body stands
abbrev pub in_task_body : Scope → List ClauseMember → tree.StmtTree → Scope
in_task_body s ps body = with_items s (in_task s (captured_in s.owner (slots_of (captured s.entries ps body)))) 0 ps

-- the clauses of a task, and its start: the order of what stands in a program says nothing but for names
abbrev pub clauses_notes : Scope → Mark → List ClauseMember → tree.StmtTree → List Note
clauses_notes s m ps body = members_notes s [] ps ++ Task s m (count_items ps) (captured s.entries ps body) ∷ []
