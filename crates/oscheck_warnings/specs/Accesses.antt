-- Which scalars a program names where, for their values or to change them, in the order in which a run comes by.
use Rattle.std.specs.Prelude.{ℕ, true, false, List, [], ◌∷◌, ◌++◌, Option, Some, None}
use Rattle.os_ast.specs.Trees as tree
use Rattle.os_ast.specs.declared.expr.Name.{Name}
use Rattle.oscheck_warnings.specs.declared.access.Access.{Access}
use Rattle.oscheck_warnings.specs.declared.access.Effect.{Effect}
use Rattle.oscheck_warnings.specs.declared.access.Effect.TheVariants as effect
use Rattle.oscheck_warnings.specs.declared.access.Site.{Site}

abbrev pub outside : Site
outside = record { task = 0; looped = false }

-- the body of the task whose pragma stands at a place
abbrev pub in_task : ℕ → Site
in_task place = record { task = place; looped = false }

abbrev pub in_loop : Site → Site
in_loop s = record { task = s.task; looped = true }

abbrev pub access : Site → Effect → Name → Access
access s e n = record { site = s; place = n.mark.place; effect = e }

-- An element is no scalar, but scalars stand in its index.
abbrev mutual
  pub expr_accesses : Site → tree.ExprTree → List Access
  expr_accesses s (tree.Number n) = []
  expr_accesses s (tree.Wide n) = []
  expr_accesses s (tree.Place t) = target_accesses s effect.Read t
  expr_accesses s (tree.ExprTree.Call f args) = args_accesses s args
  expr_accesses s (tree.Paren e) = expr_accesses s e
  expr_accesses s (tree.Unary op m e) = expr_accesses s e
  expr_accesses s (tree.Chain l first links) = expr_accesses s first ++ links_accesses s links
  expr_accesses s (tree.Choice c a b) = expr_accesses s c ++ (expr_accesses s a ++ expr_accesses s b)

  pub target_accesses : Site → Effect → tree.TargetTree → List Access
  target_accesses s f (tree.Variable n) = access s f n ∷ []
  target_accesses s f (tree.Element n m e) = expr_accesses s e

  pub args_accesses : Site → tree.Args → List Access
  args_accesses s tree.no_args = []
  args_accesses s (tree.arg e es) = expr_accesses s e ++ args_accesses s es

  pub links_accesses : Site → tree.Links → List Access
  links_accesses s tree.no_links = []
  links_accesses s (tree.link op m e rest) = expr_accesses s e ++ links_accesses s rest

abbrev pub value_accesses : Site → Option tree.ExprTree → List Access
value_accesses s None = []
value_accesses s (Some e) = expr_accesses s e

-- The value comes before the change.
abbrev pub change_accesses : Site → tree.ChangeTree → List Access
change_accesses s (tree.Set t a m e) = expr_accesses s e ++ target_accesses s effect.Change t
change_accesses s (tree.After t step m) = target_accesses s effect.Change t
change_accesses s (tree.Before t step m) = target_accesses s effect.Change t

abbrev pub step_accesses : Site → Option tree.ChangeTree → List Access
step_accesses s None = []
step_accesses s (Some c) = change_accesses s c

-- A first value is no change.
abbrev pub declarators_accesses : Site → List tree.DeclaratorTree → List Access
declarators_accesses s [] = []
declarators_accesses s (d ∷ ds) = value_accesses s d.first ++ declarators_accesses s ds

abbrev pub start_accesses : Site → tree.StartTree → List Access
start_accesses s tree.StartTree.Empty = []
start_accesses s (tree.StartTree.Declare t ds) = declarators_accesses s ds
start_accesses s (tree.StartTree.Change c) = change_accesses s c

-- What clauses and ticks name stands in no task.
abbrev mutual
  pub stmt_accesses : Site → tree.StmtTree → List Access
  stmt_accesses s tree.StmtTree.Empty = []
  stmt_accesses s (tree.Block ss) = stmts_accesses s ss
  stmt_accesses s (tree.StmtTree.Declare t ds) = declarators_accesses s ds
  stmt_accesses s (tree.StmtTree.Change c) = change_accesses s c
  stmt_accesses s (tree.StmtTree.Call f args) = args_accesses s args
  stmt_accesses s (tree.If c a) = expr_accesses s c ++ stmt_accesses s a
  stmt_accesses s (tree.IfElse c a b) = expr_accesses s c ++ (stmt_accesses s a ++ stmt_accesses s b)
  stmt_accesses s (tree.While c a) = expr_accesses (in_loop s) c ++ stmt_accesses (in_loop s) a
  stmt_accesses s (tree.For start test step a) =
      start_accesses s start
      ++ (value_accesses (in_loop s) test ++ (stmt_accesses (in_loop s) a ++ step_accesses (in_loop s) step))
  stmt_accesses s (tree.Break m) = []
  stmt_accesses s (tree.Continue m) = []
  stmt_accesses s (tree.Return m e) = expr_accesses s e
  stmt_accesses s (tree.Task m cs a) = stmt_accesses (in_task m.place) a
  stmt_accesses s (tree.Tick m t arrow e) = []
  stmt_accesses s (tree.Taskwait m) = []

  pub stmts_accesses : Site → tree.Stmts → List Access
  stmts_accesses s tree.no_stmts = []
  stmts_accesses s (tree.stmt a rest) = stmt_accesses s a ++ stmts_accesses s rest

abbrev pub item_accesses : tree.ItemTree → List Access
item_accesses (tree.ItemTree.Constant c) = []
item_accesses (tree.ItemTree.Function f) = stmts_accesses outside f.body

abbrev pub accesses : tree.ProgramTree → List Access
accesses [] = []
accesses (i ∷ rest) = item_accesses i ++ accesses rest
