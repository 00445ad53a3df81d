-- The units of the tasks of a statement, one statement after another.
use Rattle.std.specs.Prelude.{ℕ, List}
use Rattle.lowering_draft.specs.Emission.Units.{with_task}
use Rattle.lowering_draft.specs.declared.units.Units.{Units}
use Rattle.os_ast.specs.ClauseMembers.{members}
use Rattle.os_ast.specs.Trees as tree
use Rattle.os_ast.specs.declared.names.Resolved.{Resolved}

abbrev mutual
  pub with_stmt_tasks : (ℕ → Resolved) → (captured : List (List ℕ)) → tree.StmtTree → Units → Units
  with_stmt_tasks tells captured (tree.Block ss) made = with_block_tasks tells captured ss made
  with_stmt_tasks tells captured (tree.If c a) made = with_stmt_tasks tells captured a made
  with_stmt_tasks tells captured (tree.IfElse c a b) made = with_stmt_tasks tells captured b (with_stmt_tasks tells captured a made)
  with_stmt_tasks tells captured (tree.While c a) made = with_stmt_tasks tells captured a made
  with_stmt_tasks tells captured (tree.For start test step a) made = with_stmt_tasks tells captured a made
  with_stmt_tasks tells captured (tree.Task m cs a) made = with_task tells captured (record { mark = m; members = members cs; body = a }) made
  with_stmt_tasks tells captured s made = made

  pub with_block_tasks : (ℕ → Resolved) → (captured : List (List ℕ)) → tree.Stmts → Units → Units
  with_block_tasks tells captured tree.no_stmts made = made
  with_block_tasks tells captured (tree.stmt a rest) made = with_block_tasks tells captured rest (with_stmt_tasks tells captured a made)
