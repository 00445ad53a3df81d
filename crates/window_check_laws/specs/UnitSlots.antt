-- The slots of a program's units: of `main`, of its other functions and of its tasks.
use Rattle.std.specs.Prelude.{ℕ, ◌+◌, List, [], ◌∷◌}
use Rattle.os_ast.specs.Names.{Scope, enter, in_loop}
use Rattle.os_ast.specs.Notes.Clauses.{in_task_body}
use Rattle.os_ast.specs.Notes.Declarators.{after_start}
use Rattle.os_ast.specs.Notes.Programs.{after_item, file, in_body}
use Rattle.os_ast.specs.Notes.Statements.{after_stmt, after_stmts}
use Rattle.os_ast.specs.ClauseMembers.{members}
use Rattle.os_ast.specs.Trees as tree

-- the slots of the tasks in a statement, together
abbrev mutual
  pub tasks_slots : Scope → tree.StmtTree → ℕ
  tasks_slots s tree.StmtTree.Empty = 0
  tasks_slots s (tree.Block ss) = all_tasks_slots (enter s) ss
  tasks_slots s (tree.StmtTree.Declare t ds) = 0
  tasks_slots s (tree.StmtTree.Change c) = 0
  tasks_slots s (tree.StmtTree.Call f args) = 0
  tasks_slots s (tree.If c a) = tasks_slots s a
  tasks_slots s (tree.IfElse c a b) = tasks_slots s a + tasks_slots (after_stmt s a) b
  tasks_slots s (tree.While c a) = tasks_slots (in_loop s) a
  tasks_slots s (tree.For start test step a) = tasks_slots (in_loop (after_start (enter s) start)) a
  tasks_slots s (tree.Break m) = 0
  tasks_slots s (tree.Continue m) = 0
  tasks_slots s (tree.Return m e) = 0
  tasks_slots s (tree.Task m cs a) =
      let inner = in_task_body s (members cs) a in (after_stmt inner a).slots + tasks_slots inner a
  tasks_slots s (tree.Tick m t arrow e) = 0
  tasks_slots s (tree.Taskwait m) = 0

  pub all_tasks_slots : Scope → tree.Stmts → ℕ
  all_tasks_slots s tree.no_stmts = 0
  all_tasks_slots s (tree.stmt a rest) = tasks_slots s a + all_tasks_slots (after_stmt s a) rest

-- the slots of the functions among items and of the tasks in them, together
abbrev pub items_slots : Scope → List tree.ItemTree → ℕ
items_slots s [] = 0
items_slots s (tree.Constant c ∷ is) = items_slots (after_item s (tree.Constant c)) is
items_slots s (tree.Function f ∷ is) =
    let body = in_body s f in
    (after_stmts body f.body).slots + all_tasks_slots body f.body + items_slots (after_item s (tree.Function f)) is

-- the slots of all units of a program, together
abbrev pub program_slots : tree.ProgramTree → ℕ
program_slots p = items_slots file p
