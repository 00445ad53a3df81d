-- What is known of each task in a statement, by the scope in which it stands.
use Rattle.std.specs.Prelude.{⊤, List}
use Rattle.os_ast.specs.Names.{Scope, enter, in_loop}
use Rattle.os_ast.specs.Notes.Declarators.{after_start}
use Rattle.os_ast.specs.Notes.Statements.{after_stmt}
use Rattle.os_ast.specs.Trees as tree
use Rattle.os_ast.specs.declared.expr.Mark.{Mark}

-- what may be known of a task
abbrev pub OfTask : Type 1
OfTask = Scope → Mark → List tree.ClauseTree → tree.StmtTree → Type 0

-- it is known of each task in a statement; no task stands in a task
abbrev mutual
  pub Owns : OfTask → Scope → tree.StmtTree → Type 0
  Owns known s (tree.Block ss) = OwnsAll known (enter s) ss
  Owns known s (tree.If c a) = Owns known s a
  Owns known s (tree.IfElse c a b) = Owns known s a × Owns known (after_stmt s a) b
  Owns known s (tree.While c a) = Owns known (in_loop s) a
  Owns known s (tree.For start test step a) = Owns known (in_loop (after_start (enter s) start)) a
  Owns known s (tree.Task m cs a) = known s m cs a
  Owns known s tree.StmtTree.Empty = ⊤
  Owns known s (tree.StmtTree.Declare ty ds) = ⊤
  Owns known s (tree.StmtTree.Change c) = ⊤
  Owns known s (tree.StmtTree.Call f args) = ⊤
  Owns known s (tree.Break m) = ⊤
  Owns known s (tree.Continue m) = ⊤
  Owns known s (tree.Return m e) = ⊤
  Owns known s (tree.Tick m t arrow e) = ⊤
  Owns known s (tree.Taskwait m) = ⊤

  pub OwnsAll : OfTask → Scope → tree.Stmts → Type 0
  OwnsAll known s tree.no_stmts = ⊤
  OwnsAll known s (tree.stmt a rest) = Owns known s a × OwnsAll known (after_stmt s a) rest

-- outside `main` nothing need be known
abbrev pub nothing : OfTask
nothing s m cs a = ⊤

mutual
  pub owns_nothing : (a : tree.StmtTree) (s : Scope) → Owns nothing s a
  owns_nothing tree.StmtTree.Empty s = tt
  owns_nothing (tree.Block ss) s = all_own_nothing ss (enter s)
  owns_nothing (tree.StmtTree.Declare ty ds) s = tt
  owns_nothing (tree.StmtTree.Change c) s = tt
  owns_nothing (tree.StmtTree.Call f args) s = tt
  owns_nothing (tree.If c a) s = owns_nothing a s
  owns_nothing (tree.IfElse c a b) s = (owns_nothing a s, owns_nothing b (after_stmt s a))
  owns_nothing (tree.While c a) s = owns_nothing a (in_loop s)
  owns_nothing (tree.For start test step a) s = owns_nothing a (in_loop (after_start (enter s) start))
  owns_nothing (tree.Break m) s = tt
  owns_nothing (tree.Continue m) s = tt
  owns_nothing (tree.Return m e) s = tt
  owns_nothing (tree.Task m cs a) s = tt
  owns_nothing (tree.Tick m t arrow e) s = tt
  owns_nothing (tree.Taskwait m) s = tt

  pub all_own_nothing : (ss : tree.Stmts) (s : Scope) → OwnsAll nothing s ss
  all_own_nothing tree.no_stmts s = tt
  all_own_nothing (tree.stmt a rest) s = (owns_nothing a s, all_own_nothing rest (after_stmt s a))
