use Rattle.std.proofs.Common.{◌≡◌, ◌++◌, drop, map}
use Rattle.os_ast.specs.Views.{item_tree}
use Rattle.oscheck_warnings.specs.Extents.{extents}
use Rattle.oscheck_warnings.specs.Meanings.{what_at}
use Rattle.oscheck_warnings.proofs.extents.extents.Given as goal

abbrev pub invariant-loop-next : goal.invariant-loop-next
invariant-loop-next l = l.list ++ extents (what_at l.meanings) (map item_tree (drop l.next-index l.program.items)) ≡ extents (what_at l.meanings) (map item_tree l.program.items)
