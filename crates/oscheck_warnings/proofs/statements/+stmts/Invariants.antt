use Rattle.std.proofs.Common.{◌≡◌, ◌++◌, drop}
use Rattle.os_ast.specs.Views.{stmts_tree}
use Rattle.oscheck_warnings.specs.Accesses.{stmts_accesses}
use Rattle.oscheck_warnings.proofs.statements.+stmts.Given as goal

abbrev pub invariant-stmts-loop-next : goal.invariant-stmts-loop-next
invariant-stmts-loop-next l =
    l.list ++ stmts_accesses l.site (stmts_tree (drop l.next-index l.stmts)) ≡ l.fn.list ++ stmts_accesses l.site (stmts_tree l.stmts)
