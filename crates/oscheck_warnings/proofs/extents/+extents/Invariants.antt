use Rattle.std.proofs.Common.{◌≡◌, ◌++◌, drop}
use Rattle.os_ast.specs.Views.{stmts_tree}
use Rattle.oscheck_warnings.specs.Extents.{stmts_extents}
use Rattle.oscheck_warnings.specs.Meanings.{what_at}
use Rattle.oscheck_warnings.proofs.extents.+extents.Given as goal

abbrev pub invariant-stmts-loop-next : goal.invariant-stmts-loop-next
invariant-stmts-loop-next l =
    l.list ++ stmts_extents (what_at l.meanings) (stmts_tree (drop l.next-index l.stmts)) ≡ l.fn.list ++ stmts_extents (what_at l.meanings) (stmts_tree l.stmts)
