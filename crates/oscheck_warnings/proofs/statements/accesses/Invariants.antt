use Rattle.std.proofs.Common.{◌≡◌, ◌++◌, drop, map}
use Rattle.os_ast.specs.Views.{item_tree}
use Rattle.oscheck_warnings.specs.Accesses.{accesses}
use Rattle.oscheck_warnings.proofs.statements.accesses.Given as goal

abbrev pub invariant-loop-next : goal.invariant-loop-next
invariant-loop-next l = l.list ++ accesses (map item_tree (drop l.next-index l.program.items)) ≡ accesses (map item_tree l.program.items)
