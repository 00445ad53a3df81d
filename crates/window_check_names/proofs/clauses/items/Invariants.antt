use Rattle.std.proofs.Common.{◌≡◌, ◌+◌, ◌≤◌, length, map, drop}
use Rattle.os_ast.specs.ClauseMembers.{Item}
use Rattle.os_ast.specs.Views.{clause_item_tree}
use Rattle.window_check_names.specs.Findings.{noted}
use Rattle.window_check_names.specs.Members.{after_members, listed_notes}
use Rattle.window_check_laws.specs.Room.{room_end}
use Rattle.window_check_names.proofs.clauses.items.Given as goal

abbrev pub invariant-loop-next : goal.invariant-loop-next
invariant-loop-next l = record {
  found : noted l.found (listed_notes l.scopes l.listed (map (Item l.fn.direction) (map clause_item_tree (drop l.next-index l.items))))
      ≡ noted l.fn.found (listed_notes l.scopes l.fn.listed (map (Item l.fn.direction) (map clause_item_tree l.items)));
  listed : after_members l.scopes l.listed (map (Item l.fn.direction) (map clause_item_tree (drop l.next-index l.items)))
      ≡ after_members l.scopes l.fn.listed (map (Item l.fn.direction) (map clause_item_tree l.items));
  count : length l.listed.items + length l.items ≤ room_end + l.next-index;
}
