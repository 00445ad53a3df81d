use Rattle.std.proofs.Common.{◌≡◌, ◌+◌, ◌≤◌, [], length, map, drop}
use Rattle.os_ast.specs.Notes.Clauses.{members_notes}
use Rattle.os_ast.specs.ClauseMembers.{members}
use Rattle.os_ast.specs.Views.{clause_tree}
use Rattle.window_check_names.specs.Findings.{noted}
use Rattle.window_check_names.specs.Members.{none_listed, after_members, listed_notes}
use Rattle.window_check_laws.specs.Room.{room_end}
use Rattle.window_check_names.proofs.clauses.clauses.Given as goal

abbrev pub invariant-loop-next : goal.invariant-loop-next
invariant-loop-next l = record {
  found : noted l.found (listed_notes l.scopes l.listed (members (map clause_tree (drop l.next-index l.clauses))))
      ≡ noted l.fn.found (members_notes l.scopes [] (members (map clause_tree l.clauses)));
  listed : after_members l.scopes l.listed (members (map clause_tree (drop l.next-index l.clauses)))
      ≡ after_members l.scopes none_listed (members (map clause_tree l.clauses));
  count : length l.listed.items + length (members (map clause_tree (drop l.next-index l.clauses))) ≤ room_end;
}
