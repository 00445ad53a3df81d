use Rattle.std.proofs.Common.{◌≡◌, drop}
use Rattle.os_ast.specs.ClauseMembers.{is_in}
use Rattle.cddf_meaning_plain_tasks.specs.Sought.{ids_of}
use Rattle.cddf_meaning_plain_tasks.proofs.naming.in_names.Given as goal

abbrev pub invariant-loop-name : goal.invariant-loop-name
invariant-loop-name l =
    is_in l.id (ids_of (drop l.name-index l.names)) ≡ is_in l.id (ids_of l.names)
