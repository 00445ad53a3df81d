use Rattle.std.proofs.Common.{◌≡◌, drop}
use Rattle.cddf_meaning_plain_tasks.specs.Has.{has_stmts}
use Rattle.os_ast.specs.Views.{stmts_tree}
use Rattle.cddf_meaning_plain_tasks.proofs.naming.+statements.Given as goal

abbrev pub invariant-in_stmts-loop-stmt : goal.invariant-in_stmts-loop-stmt
invariant-in_stmts-loop-stmt l =
    has_stmts l.id (stmts_tree (drop l.stmt-index l.stmts)) ≡ has_stmts l.id (stmts_tree l.stmts)
