use Rattle.std.proofs.Common.{◌≡◌, ◌++◌, drop, map}
use Rattle.os_ast.specs.Views.{clause_item_tree}
use Rattle.oscheck_warnings.specs.Extents.{items_extents}
use Rattle.oscheck_warnings.specs.Meanings.{what_at}
use Rattle.oscheck_warnings.proofs.extents.items.Given as goal

abbrev pub invariant-loop-item : goal.invariant-loop-item
invariant-loop-item l =
    l.list ++ items_extents (what_at l.meanings) (map clause_item_tree (drop l.item-index l.items))
    ≡ l.fn.list ++ items_extents (what_at l.meanings) (map clause_item_tree l.items)
