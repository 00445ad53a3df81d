use Rattle.std.proofs.Common.{◌≡◌, ◌++◌, drop, map}
use Rattle.cddf_meaning_plain_tasks.specs.Sought.{item_names}
use Rattle.os_ast.specs.Views.{clause_item_tree}
use Rattle.cddf_meaning_plain_tasks.proofs.items.add_item_names.Given as goal

abbrev pub invariant-loop-item : goal.invariant-loop-item
invariant-loop-item l =
    l.ids.items ++ item_names (map clause_item_tree (drop l.item-index l.items)) ≡ l.initial.ids.items ++ item_names (map clause_item_tree l.items)
