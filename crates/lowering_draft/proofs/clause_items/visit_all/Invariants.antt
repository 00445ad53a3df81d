use Rattle.std.proofs.Common.{◌≡◌, drop, map}
use Rattle.lowering_draft.specs.Items.{with_items}
use Rattle.lowering_relation.specs.Names.{told_at}
use Rattle.os_ast.specs.ClauseMembers.{Item}
use Rattle.os_ast.specs.Views.{clause_item_tree}
use Rattle.lowering_draft.proofs.clause_items.visit_all.Given as goal

abbrev pub invariant-loop-item : goal.invariant-loop-item
invariant-loop-item g l =
    with_items (g.V.ItemVisitor.with_item (told_at l.told.names.now)) (map (Item l.direction) (map clause_item_tree (drop l.item-index l.items))) l.made
    ≡ with_items (g.V.ItemVisitor.with_item (told_at l.told.names.now)) (map (Item l.direction) (map clause_item_tree l.items)) l.fn.made
