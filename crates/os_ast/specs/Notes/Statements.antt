-- Statements, what is in scope after each, and what stands in them.
use Rattle.std.specs.Prelude.{List, [], ◌∷◌, ◌++◌}
use Rattle.os_ast.specs.Names.{Scope, enter, leave, after_unit, in_loop, behind, typed}
use Rattle.os_ast.specs.Notes.Clauses.{in_task_body, clauses_notes}
use Rattle.os_ast.specs.Notes.Declarators.{after_declarators, declarators_notes, after_start, start_notes}
use Rattle.os_ast.specs.Notes.Expressions.{count_args, expr_notes, place_notes, args_notes, value_notes, change_notes, step_notes}
use Rattle.os_ast.specs.Notes.Kinds.{Note, Used, Left, Returned, Pragma}
use Rattle.os_ast.specs.ClauseMembers.{members}
use Rattle.os_ast.specs.Trees as tree
use Rattle.os_ast.specs.declared.names.Direction.TheVariants as direction
use Rattle.os_ast.specs.declared.names.Role.TheVariants as role
use Rattle.os_ast.specs.declared.names.Use.TheVariants as usage

-- what is in scope after a statement
abbrev mutual
  pub after_stmt : Scope → tree.StmtTree → Scope
  after_stmt s (tree.Block ss) = leave s (after_stmts (enter s) ss)
  after_stmt s (tree.StmtTree.Declare t ds) = after_declarators (typed t s) ds
  after_stmt s (tree.If c a) = after_stmt s a
  after_stmt s (tree.IfElse c a b) = after_stmt (after_stmt s a) b
  after_stmt s (tree.While c a) = behind s (after_stmt (in_loop s) a)
  after_stmt s (tree.For start test step a) = leave s (after_stmt (in_loop (after_start (enter s) start)) a)
  after_stmt s (tree.Task m cs a) = after_unit s (after_stmt (in_task_body s (members cs) a) a)
  after_stmt s _ = s

  pub after_stmts : Scope → tree.Stmts → Scope
  after_stmts s tree.no_stmts = s
  after_stmts s (tree.stmt a rest) = after_stmts (after_stmt s a) rest

abbrev mutual
  pub stmt_notes : Scope → tree.StmtTree → List Note
  stmt_notes s tree.StmtTree.Empty = []
  stmt_notes s (tree.Block ss) = stmts_notes (enter s) ss
  stmt_notes s (tree.StmtTree.Declare t ds) = declarators_notes (typed t s) ds
  stmt_notes s (tree.StmtTree.Change c) = change_notes s c
  stmt_notes s (tree.StmtTree.Call f args) = Used s f (usage.Called (count_args args)) ∷ args_notes s args
  stmt_notes s (tree.If c a) = expr_notes s c ++ stmt_notes s a
  stmt_notes s (tree.IfElse c a b) = expr_notes s c ++ stmt_notes s a ++ stmt_notes (after_stmt s a) b
  stmt_notes s (tree.While c a) = expr_notes s c ++ stmt_notes (in_loop s) a
  stmt_notes s (tree.For start test step a) = let head = after_start (enter s) start in
      start_notes (enter s) start ++ value_notes head test ++ step_notes head step ++ stmt_notes (in_loop head) a
  stmt_notes s (tree.Break m) = Left s m ∷ []
  stmt_notes s (tree.Continue m) = Left s m ∷ []
  stmt_notes s (tree.Return m e) = Returned s m ∷ expr_notes s e
  stmt_notes s (tree.Task m cs a) = clauses_notes s m (members cs) a ++ stmt_notes (in_task_body s (members cs) a) a
  stmt_notes s (tree.Tick m t arrow e) = Pragma s m ∷ place_notes s (role.Flow direction.Reads) t ++ expr_notes s e
  stmt_notes s (tree.Taskwait m) = Pragma s m ∷ []

  pub stmts_notes : Scope → tree.Stmts → List Note
  stmts_notes s tree.no_stmts = []
  stmts_notes s (tree.stmt a rest) = stmt_notes s a ++ stmts_notes (after_stmt s a) rest
