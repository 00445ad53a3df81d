-- What a task's clauses give beside their notes.
use Rattle.std.specs.Prelude.{ℕ, Bool, true, false, List, [], ◌∷◌, ◌++◌, length, Option, Some, is_some}
use Rattle.std.specs.BTreeSet.{insert_key}
use Rattle.std.specs.Ordering.{nat_cmp}
use Rattle.os_ast.specs.Names.{Scope, lookup, entity_of, flag_of, flagged, declare}
use Rattle.os_ast.specs.Notes.Clauses.{member_notes}
use Rattle.os_ast.specs.Notes.Kinds.{Note}
use Rattle.os_ast.specs.ClauseMembers.{ClauseMember, Item, Private, item_name}
use Rattle.os_ast.specs.declared.names.Direction.{Direction}
use Rattle.os_ast.specs.declared.names.Entity.{Entity}
use Rattle.os_ast.specs.declared.names.Entity.TheVariants as entity
use Rattle.os_ast.specs.declared.names.Entry.{Entry}
use Rattle.window_check_laws.specs.Slots.{with_slots, control_slots}
use Rattle.window_check_names.specs.declared.members.ItemName.{ItemName}

-- the names that stood in the clauses, the items in their order, and the captured scalars that `firstprivate` gave
pub record ListedMembers : Type 0 where
  pub names : List ℕ
  pub items : List ItemName
  pub slots : List ℕ

abbrev pub none_listed : ListedMembers
none_listed = record { names = []; items = []; slots = [] }

-- what an item's name is in the body, by what it is round the task and whether an arrow stands before it
abbrev pub inside : Option Entity → ℕ → Bool → Direction → Entity
inside (Some (entity.Window slot)) number true d = entity.View number d
inside (Some (entity.Window slot)) number false d = entity.Element number d
inside _ number joined d = entity.Element number d

abbrev pub with_item : Option Entry → ListedMembers → ℕ → Bool → Direction → ListedMembers
with_item e l id joined d = record l {
  names = insert_key nat_cmp l.names id;
  items = l.items ++ record { id = id; entity = inside (entity_of e) (length l.items) joined d; unsigned = flag_of e } ∷ [];
}

abbrev pub with_private : Option Entity → ListedMembers → ℕ → ListedMembers
with_private e l id = record l { names = insert_key nat_cmp l.names id; slots = with_slots (control_slots e) l.slots }

abbrev pub after_member : Scope → ListedMembers → ClauseMember → ListedMembers
after_member s l (Item d i) =
    let id = (item_name i.stream i.window).id in
    with_item (lookup s.entries id) l id (is_some i.window) d
after_member s l (Private n) = with_private (entity_of (lookup s.entries n.id)) l n.id

abbrev pub after_members : Scope → ListedMembers → List ClauseMember → ListedMembers
after_members s l [] = l
after_members s l (p ∷ ps) = after_members s (after_member s l p) ps

-- the notes of members, where the names before them are listed
abbrev pub listed_notes : Scope → ListedMembers → List ClauseMember → List Note
listed_notes s l [] = []
listed_notes s l (p ∷ ps) = member_notes s l.names p ++ listed_notes s (after_member s l p) ps

-- the scope with the names of items
abbrev pub after_names : Scope → List ItemName → Scope
after_names s [] = s
after_names s (i ∷ is) = after_names (declare (flagged i.unsigned s) i.id i.entity) is
