-- What stands in a statement without the bodies of its tasks.
use Rattle.std.proofs.Common.{List, [], ◌∷◌, ◌++◌}
use Rattle.os_ast.specs.Names.{Scope, enter, in_loop, typed}
use Rattle.os_ast.specs.Notes.Clauses.{clauses_notes}
use Rattle.os_ast.specs.Notes.Declarators.{declarators_notes, after_start, start_notes}
use Rattle.os_ast.specs.Notes.Expressions.{count_args, expr_notes, args_notes, place_notes, value_notes, change_notes, step_notes}
use Rattle.os_ast.specs.Notes.Kinds.{Note, Used, Left, Returned, Pragma}
use Rattle.os_ast.specs.Notes.Statements.{after_stmt}
use Rattle.os_ast.specs.ClauseMembers.{members}
use Rattle.os_ast.specs.Trees as tree
use Rattle.os_ast.specs.declared.names.Direction.TheVariants as direction
use Rattle.os_ast.specs.declared.names.Role.TheVariants as role
use Rattle.os_ast.specs.declared.names.Use.TheVariants as usage

abbrev mutual
  pub own_notes : Scope → tree.StmtTree → List Note
  own_notes s tree.StmtTree.Empty = []
  own_notes s (tree.Block ss) = all_own_notes (enter s) ss
  own_notes s (tree.StmtTree.Declare ty ds) = declarators_notes (typed ty s) ds
  own_notes s (tree.StmtTree.Change c) = change_notes s c
  own_notes s (tree.StmtTree.Call f args) = Used s f (usage.Called (count_args args)) ∷ args_notes s args
  own_notes s (tree.If c a) = expr_notes s c ++ own_notes s a
  own_notes s (tree.IfElse c a b) = expr_notes s c ++ own_notes s a ++ own_notes (after_stmt s a) b
  own_notes s (tree.While c a) = expr_notes s c ++ own_notes (in_loop s) a
  own_notes s (tree.For start test step a) =
      start_notes (enter s) start ++ value_notes (after_start (enter s) start) test ++ step_notes (after_start (enter s) start) step ++ own_notes (in_loop (after_start (enter s) start)) a
  own_notes s (tree.Break m) = Left s m ∷ []
  own_notes s (tree.Continue m) = Left s m ∷ []
  own_notes s (tree.Return m e) = Returned s m ∷ expr_notes s e
  own_notes s (tree.Task m cs a) = clauses_notes s m (members cs) a
  own_notes s (tree.Tick m t arrow e) = Pragma s m ∷ place_notes s (role.Flow direction.Reads) t ++ expr_notes s e
  own_notes s (tree.Taskwait m) = Pragma s m ∷ []

  pub all_own_notes : Scope → tree.Stmts → List Note
  all_own_notes s tree.no_stmts = []
  all_own_notes s (tree.stmt a rest) = own_notes s a ++ all_own_notes (after_stmt s a) rest
