use Rattle.std.proofs.Common.{◌≡◌, drop, map}
use Rattle.os_ast.specs.Leveled.{AreAll, IsItem}
use Rattle.os_ast.specs.Notes.Programs.{after_items, items_notes}
use Rattle.os_ast.specs.Views.{item_tree}
use Rattle.os_ast.specs.declared.names.Owner.TheVariants as owner
use Rattle.window_check_names.specs.Findings.{noted}
use Rattle.window_check_laws.specs.Room.{HasRoom, items_weight}
use Rattle.window_check.proofs.functions.items.Given as goal

abbrev pub invariant-loop-next : goal.invariant-loop-next
invariant-loop-next l = record {
  room : HasRoom l.scopes (items_weight (map item_tree (drop l.next-index l.items)));
  outside : l.scopes.owner ≡ owner.OfFunction;
  leveled : AreAll IsItem (map item_tree (drop l.next-index l.items));
  scopes : after_items l.scopes (map item_tree (drop l.next-index l.items)) ≡ after_items l.fn.scopes (map item_tree l.items);
  found : noted l.found (items_notes l.scopes (map item_tree (drop l.next-index l.items))) ≡ noted l.fn.found (items_notes l.fn.scopes (map item_tree l.items));
}
