-- The tasks of the control program, as they are kept, and names of clauses.
use Rattle.std.specs.Prelude.{ℕ, List, [], ◌∷◌, ◌++◌, map}
use Rattle.cddf_meaning.specs.Tasks.{Task}
use Rattle.cddf_meaning_plain_tasks.specs.declared.found_task.FoundTask.{FoundTask}
use Rattle.os_ast.specs.FreeNames.{target_names, join_names}
use Rattle.os_ast.specs.ClauseMembers.{item_name, members}
use Rattle.os_ast.specs.Trees as tree
use Rattle.os_ast.specs.Views.{clause_tree, stmt_tree}
use Rattle.os_ast.specs.declared.expr.Name.{Name}

-- the numbers of names
abbrev pub ids_of : List Name → List ℕ
ids_of [] = []
ids_of (n ∷ ns) = n.id ∷ ids_of ns

-- the names of items in their task's body
abbrev pub item_names : List tree.ClauseItemTree → List ℕ
item_names [] = []
item_names (i ∷ is) = (item_name i.stream i.window).id ∷ item_names is

-- the names that clause items mention: of their streams and of what is behind their arrows
abbrev pub items_names : List tree.ClauseItemTree → List ℕ
items_names [] = []
items_names (i ∷ is) = target_names i.stream ++ join_names i.window ++ items_names is

-- a task of the program, as it is kept
abbrev pub task_of : FoundTask → Task
task_of f = record {
  mark = f.site.now.mark;
  members = members (map clause_tree f.site.now.clauses);
  body = stmt_tree f.site.now.body;
  captured = f.captured;
  items = f.items;
}
