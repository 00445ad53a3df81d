use Rattle.std.proofs.Common.{◌≡◌, max, drop, map}
use Rattle.os_ast.specs.Depth.{deepest, clause_item_depth}
use Rattle.os_ast.specs.Views.{clause_item_tree}
use Rattle.os_ast.proofs.nesting.depth_of_clause_items.Given as goal

abbrev pub invariant-loop-item : goal.invariant-loop-item
invariant-loop-item l =
    max l.deepest (deepest clause_item_depth (map clause_item_tree (drop l.item-index l.items))) ≡ deepest clause_item_depth (map clause_item_tree l.items)
