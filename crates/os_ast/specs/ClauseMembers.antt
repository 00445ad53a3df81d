-- The clauses of a task, member by member.
use Rattle.std.specs.Prelude.{ℕ, suc, ◌==◌, ◌||◌, Bool, false, List, [], ◌∷◌, map, Option}
use Rattle.std.specs.List.{flat_map}
use Rattle.std.specs.Option.{option_map_or}
use Rattle.os_ast.specs.Trees as tree
use Rattle.os_ast.specs.declared.expr.Name.{Name}
use Rattle.os_ast.specs.declared.names.Direction.{Direction}
use Rattle.os_ast.specs.declared.names.Direction.TheVariants as direction

-- The members of a task's clauses, one after another: its items, each with its direction, and its `firstprivate` names.
pub data ClauseMember : Type 0 where
  Item : Direction → tree.ClauseItemTree → ClauseMember
  Private : Name → ClauseMember

abbrev pub clause_members : tree.ClauseKindTree → List ClauseMember
clause_members (tree.Input items) = map (Item direction.Reads) items
clause_members (tree.Output items) = map (Item direction.Writes) items
clause_members (tree.Firstprivate ns) = map Private ns

abbrev pub members : List tree.ClauseTree → List ClauseMember
members cs = flat_map (λ (c : tree.ClauseTree). clause_members c.kind) cs

abbrev pub target_name : tree.TargetTree → Name
target_name (tree.Variable n) = n
target_name (tree.Element n m e) = n

-- the name of an item in the task's body: its window's or scalar's, or the stream's where that stands alone
abbrev pub item_name : tree.TargetTree → Option tree.JoinTree → Name
item_name stream j = option_map_or (λ (j : tree.JoinTree). j.name) j (target_name stream)

abbrev pub member_name : ClauseMember → Name
member_name (Item d i) = item_name i.stream i.window
member_name (Private n) = n

-- how many items there are
abbrev pub count_items : List ClauseMember → ℕ
count_items [] = 0
count_items (Item d i ∷ ps) = suc (count_items ps)
count_items (Private n ∷ ps) = count_items ps

-- the names of the items, by their numbers
abbrev pub item_ids : List ClauseMember → List ℕ
item_ids [] = []
item_ids (Item d i ∷ ps) = (item_name i.stream i.window).id ∷ item_ids ps
item_ids (Private n ∷ ps) = item_ids ps

-- the `firstprivate` names, by their numbers
abbrev pub private_ids : List ClauseMember → List ℕ
private_ids [] = []
private_ids (Item d i ∷ ps) = private_ids ps
private_ids (Private n ∷ ps) = n.id ∷ private_ids ps

abbrev pub is_in : ℕ → List ℕ → Bool
is_in id [] = false
is_in id (i ∷ is) = (i == id) || is_in id is
