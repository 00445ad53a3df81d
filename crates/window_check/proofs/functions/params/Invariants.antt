use Rattle.std.proofs.Common.{◌≡◌, ◌-◌, drop, length}
use Rattle.os_ast.specs.Notes.Programs.{after_params, params_notes}
use Rattle.window_check_names.specs.Findings.{noted}
use Rattle.window_check_laws.specs.Room.{HasRoom}
use Rattle.window_check.proofs.functions.params.Given as goal

abbrev pub invariant-loop-next : goal.invariant-loop-next
invariant-loop-next l = record {
  room : HasRoom l.scopes (length l.list - l.next-index);
  scopes : after_params l.scopes (drop l.next-index l.list) ≡ after_params l.fn.scopes l.list;
  found : noted l.found (params_notes l.scopes (drop l.next-index l.list)) ≡ noted l.fn.found (params_notes l.fn.scopes l.list);
}
