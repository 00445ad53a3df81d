use Rattle.std.proofs.Common.{◌≡◌, max, drop, map}
use Rattle.os_ast.specs.Depth.{deepest, item_depth}
use Rattle.os_ast.specs.Views.{item_tree}
use Rattle.os_ast.proofs.nesting.depth.Given as goal

abbrev pub invariant-loop-item : goal.invariant-loop-item
invariant-loop-item l =
    max l.deepest (deepest item_depth (map item_tree (drop l.item-index l.program.items))) ≡ deepest item_depth (map item_tree l.program.items)
