-- How much a tree may declare, and that there is room for it: no count of a scope passes a limit of its type.
use Rattle.std.specs.Prelude.{◌≡◌, ℕ, ◌+◌, ◌≤◌, List, [], ◌∷◌, length, if◌then◌else◌, is_some, unwrap_or}
use Rattle.os_ast.specs.Limits.{size_limit}
use Rattle.os_ast.specs.Names.{Scope}
use Rattle.os_ast.specs.Notes.Programs.{param_list}
use Rattle.os_ast.specs.ClauseMembers.{members}
use Rattle.os_ast.specs.Stacked.{Stacked, main_extent}
use Rattle.os_ast.specs.Trees as tree
use Rattle.os_ast.specs.declared.names.Form.{Form}
use Rattle.os_ast.specs.declared.names.Form.TheVariants as form_of
use Rattle.os_ast.specs.declared.names.Entry.{Entry}
use Rattle.os_ast.specs.declared.names.Owner.{Owner}
use Rattle.os_ast.specs.declared.names.Owner.TheVariants as owner

-- a size is at most the limit
abbrev pub declarator_weight : tree.DeclaratorTree → ℕ
declarator_weight d = if is_some d.size then size_limit else 1

abbrev pub declarators_weight : List tree.DeclaratorTree → ℕ
declarators_weight [] = 0
declarators_weight (d ∷ ds) = declarator_weight d + declarators_weight ds

abbrev pub start_weight : tree.StartTree → ℕ
start_weight tree.StartTree.Empty = 0
start_weight (tree.StartTree.Declare t ds) = declarators_weight ds
start_weight (tree.StartTree.Change c) = 0

abbrev mutual
  -- what each declarator takes, and one for each scope and item of a task
  pub stmt_weight : tree.StmtTree → ℕ
  stmt_weight tree.StmtTree.Empty = 0
  stmt_weight (tree.Block ss) = 1 + stmts_weight ss
  stmt_weight (tree.StmtTree.Declare t ds) = declarators_weight ds
  stmt_weight (tree.StmtTree.Change c) = 0
  stmt_weight (tree.StmtTree.Call f args) = 0
  stmt_weight (tree.If c a) = stmt_weight a
  stmt_weight (tree.IfElse c a b) = stmt_weight a + stmt_weight b
  stmt_weight (tree.While c a) = stmt_weight a
  stmt_weight (tree.For start test step a) = 1 + start_weight start + stmt_weight a
  stmt_weight (tree.Break m) = 0
  stmt_weight (tree.Continue m) = 0
  stmt_weight (tree.Return m e) = 0
  stmt_weight (tree.Task m cs a) = 1 + length (members cs) + stmt_weight a
  stmt_weight (tree.Tick m t arrow e) = 0
  stmt_weight (tree.Taskwait m) = 0

  pub stmts_weight : tree.Stmts → ℕ
  stmts_weight tree.no_stmts = 0
  stmts_weight (tree.stmt a rest) = stmt_weight a + stmts_weight rest

-- how much an item declares: 1 for a constant; for a function 6, its two scopes and what stands round the body of `main`, and 1 for each
-- parameter, and what its body declares
abbrev pub item_weight : tree.ItemTree → ℕ
item_weight (tree.Constant c) = 1
item_weight (tree.Function f) = 6 + length (param_list f.params) + stmts_weight f.body

abbrev pub items_weight : List tree.ItemTree → ℕ
items_weight [] = 0
items_weight (i ∷ is) = item_weight i + items_weight is

-- No count of a program passes this: a sized declarator has at least five tokens, and a program at most 262,144.
abbrev pub room_end : ℕ
room_end = 4294705152

-- the slots of `main` in scope lie above one another, in `main` below the next one; in functions there are none
pub record IsOrdered (o : Owner) (slots : ℕ) (es : List Entry) : Type 0 where
  pub top : ℕ
  pub stacked : Stacked main_extent top es
  pub below : o ≡ owner.OfMain → top ≤ slots
  pub outside : o ≡ owner.OfFunction → top ≡ 0

-- the counts of a scope have room for so much more
pub record HasRoom (s : Scope) (n : ℕ) : Type 0 where
  pub slots : s.slots + n ≤ room_end
  pub depth : s.depth + n ≤ room_end
  pub functions : s.functions + n ≤ room_end
  pub elements : s.elements + n ≤ room_end
  pub arrays : s.arrays + n ≤ room_end
  pub streams : s.streams + n ≤ room_end
  pub entries : length s.entries + n ≤ room_end
  pub order : IsOrdered s.owner s.slots s.entries

-- what a declarator of a form takes
abbrev pub form_weight : Form → ℕ
form_weight form_of.Scalar = 1
form_weight (form_of.Array size) = unwrap_or size 0
form_weight form_of.Window = 1
form_weight form_of.Stream = 1
form_weight (form_of.Streams size) = unwrap_or size 0
