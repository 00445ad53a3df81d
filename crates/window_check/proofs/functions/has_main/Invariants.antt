use Rattle.std.proofs.Common.{◌≡◌, drop, map}
use Rattle.os_ast.specs.Views.{item_tree}
use Rattle.os_ast.specs.Violations.{has_main}
use Rattle.window_check.proofs.functions.has_main.Given as goal

abbrev pub invariant-loop-item : goal.invariant-loop-item
invariant-loop-item l = has_main (map item_tree (drop l.item-index l.items)) ≡ has_main (map item_tree l.items)
