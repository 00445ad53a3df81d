use Rattle.std.proofs.Common.{◌≡◌, drop}
use Rattle.os_ast.specs.Views.{stmts_tree}
use Rattle.oscheck_warnings.specs.OpenEnds.{some_stay}
use Rattle.oscheck_warnings.proofs.open_ends.+stays.Given as goal

abbrev pub invariant-some_stay-loop-next : goal.invariant-some_stay-loop-next
invariant-some_stay-loop-next l = some_stay (stmts_tree (drop l.next-index l.stmts)) ≡ some_stay (stmts_tree l.stmts)
