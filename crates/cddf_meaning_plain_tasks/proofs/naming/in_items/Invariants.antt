use Rattle.std.proofs.Common.{◌≡◌, drop, map}
use Rattle.cddf_meaning_plain_tasks.specs.Has.{has_items}
use Rattle.os_ast.specs.Views.{clause_item_tree}
use Rattle.cddf_meaning_plain_tasks.proofs.naming.in_items.Given as goal

abbrev pub invariant-loop-item : goal.invariant-loop-item
invariant-loop-item l =
    has_items l.id (map clause_item_tree (drop l.item-index l.items)) ≡ has_items l.id (map clause_item_tree l.items)
