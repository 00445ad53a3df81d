use Rattle.std.proofs.Common.{◌≡◌, drop, map}
use Rattle.os_ast.specs.ClauseMembers.{is_in}
use Rattle.cddf_meaning_plain_tasks.specs.Sought.{item_names}
use Rattle.os_ast.specs.Views.{clause_item_tree}
use Rattle.cddf_meaning_plain_tasks.proofs.naming.name_items.Given as goal

abbrev pub invariant-loop-item : goal.invariant-loop-item
invariant-loop-item l =
    is_in l.id (item_names (map clause_item_tree (drop l.item-index l.items))) ≡ is_in l.id (item_names (map clause_item_tree l.items))
