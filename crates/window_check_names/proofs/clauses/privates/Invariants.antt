use Rattle.std.proofs.Common.{◌≡◌, map, drop}
use Rattle.os_ast.specs.ClauseMembers.{Private}
use Rattle.window_check_names.specs.Findings.{noted}
use Rattle.window_check_names.specs.Members.{after_members, listed_notes}
use Rattle.window_check_names.proofs.clauses.privates.Given as goal

abbrev pub invariant-loop-name : goal.invariant-loop-name
invariant-loop-name l = record {
  found : noted l.found (listed_notes l.scopes l.listed (map Private (drop l.name-index l.names)))
      ≡ noted l.fn.found (listed_notes l.scopes l.fn.listed (map Private l.names));
  listed : after_members l.scopes l.listed (map Private (drop l.name-index l.names))
      ≡ after_members l.scopes l.fn.listed (map Private l.names);
}
