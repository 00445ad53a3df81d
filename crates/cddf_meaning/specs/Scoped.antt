-- The tasks of a program as a walk over scopes finds them, which gives a slot to each scalar of the control program.
use Rattle.std.specs.Prelude.{◌≡◌, ℕ, ◌==◌, if◌then◌else◌, List, [], ◌∷◌, ◌++◌, map, Option, Some, None}
use Rattle.cddf_meaning.specs.File.{File}
use Rattle.cddf_meaning.specs.Functions.{empty_file, with_item}
use Rattle.cddf_meaning.specs.Program.{Main, main_of}
use Rattle.cddf_meaning.specs.Tasks.{Task}
use Rattle.cddf_meaning.specs.declared.typed_name.TypedName.{TypedName}
use Rattle.os_ast.specs.Captured.{Scalar, captured}
use Rattle.os_ast.specs.Names.{Scope, enter, flag_of, in_loop, lookup, main_id}
use Rattle.os_ast.specs.Notes.Declarators.{after_start}
use Rattle.os_ast.specs.Notes.Programs as notes
use Rattle.os_ast.specs.Notes.Programs.{after_item, in_body}
use Rattle.os_ast.specs.Notes.Statements.{after_stmt}
use Rattle.os_ast.specs.ClauseMembers.{item_ids, members}
use Rattle.os_ast.specs.Trees as tree
use Rattle.os_ast.specs.declared.expr.Mark.{Mark}
use Rattle.os_ast.specs.declared.names.Entry.{Entry}

-- a name, with its type as the innermost declaration has it
abbrev pub scoped_name : List Entry → ℕ → TypedName
scoped_name entries id = record { id = id; unsigned = flag_of (lookup entries id) }

-- a task where this is in scope
abbrev pub scoped_task_at : Scope → Mark → List tree.ClauseTree → tree.StmtTree → Task
scoped_task_at s m cs body = record {
  mark = m;
  members = members cs;
  body = body;
  captured = map (scoped_name s.entries) (map (λ (c : Scalar). c.id) (captured s.entries (members cs) body));
  items = map (scoped_name s.entries) (item_ids (members cs));
}

-- The tasks in a statement, where this is in scope. No task stands in a task.
abbrev mutual
  pub scoped_tasks_in : Scope → tree.StmtTree → List Task
  scoped_tasks_in s tree.StmtTree.Empty = []
  scoped_tasks_in s (tree.Block ss) = scoped_tasks_in_all (enter s) ss
  scoped_tasks_in s (tree.StmtTree.Declare ty ds) = []
  scoped_tasks_in s (tree.StmtTree.Change c) = []
  scoped_tasks_in s (tree.StmtTree.Call f args) = []
  scoped_tasks_in s (tree.If c a) = scoped_tasks_in s a
  scoped_tasks_in s (tree.IfElse c a b) = scoped_tasks_in s a ++ scoped_tasks_in (after_stmt s a) b
  scoped_tasks_in s (tree.While c a) = scoped_tasks_in (in_loop s) a
  scoped_tasks_in s (tree.For start test step a) = scoped_tasks_in (in_loop (after_start (enter s) start)) a
  scoped_tasks_in s (tree.Break m) = []
  scoped_tasks_in s (tree.Continue m) = []
  scoped_tasks_in s (tree.Return m e) = []
  scoped_tasks_in s (tree.Task m cs a) = scoped_task_at s m cs a ∷ []
  scoped_tasks_in s (tree.Tick m t arrow e) = []
  scoped_tasks_in s (tree.Taskwait m) = []

  -- the tasks in the statements of a block
  pub scoped_tasks_in_all : Scope → tree.Stmts → List Task
  scoped_tasks_in_all s tree.no_stmts = []
  scoped_tasks_in_all s (tree.stmt a rest) = scoped_tasks_in s a ++ scoped_tasks_in_all (after_stmt s a) rest

abbrev pub scoped_main_at : File → Scope → tree.FunctionTree → Main
scoped_main_at file s f = record { file = file; tasks = scoped_tasks_in_all (in_body s f) f.body; body = f.body }

-- the function `main` among these items, behind what the items before them declare
abbrev pub scoped_main_behind : File → Scope → List tree.ItemTree → Option Main
scoped_main_behind file s [] = None
scoped_main_behind file s (tree.Constant c ∷ is) = scoped_main_behind (with_item file (tree.Constant c)) (after_item s (tree.Constant c)) is
scoped_main_behind file s (tree.Function f ∷ is) =
    if f.name.id == main_id then Some (scoped_main_at file s f)
    else scoped_main_behind (with_item file (tree.Function f)) (after_item s (tree.Function f)) is

abbrev pub scoped_main : tree.ProgramTree → Option Main
scoped_main program = scoped_main_behind empty_file notes.file program

-- the walk over scopes finds the same `main`, with the same tasks, as the definition by names alone
abbrev pub FindTheSame : tree.ProgramTree → Type 0
FindTheSame program = scoped_main program ≡ main_of program
