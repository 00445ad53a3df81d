use Rattle.std.proofs.Common.{◌≡◌, drop}
use Rattle.os_ast.specs.Views.{stmts_tree}
use Rattle.oscheck_warnings.specs.OpenEnds.{some_break}
use Rattle.oscheck_warnings.proofs.open_ends.+breaks.Given as goal

abbrev pub invariant-some_break-loop-next : goal.invariant-some_break-loop-next
invariant-some_break-loop-next l = some_break (stmts_tree (drop l.next-index l.stmts)) ≡ some_break (stmts_tree l.stmts)
