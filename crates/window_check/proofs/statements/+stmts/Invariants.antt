use Rattle.std.proofs.Common.{◌≡◌, drop}
use Rattle.os_ast.specs.Notes.Statements.{after_stmts, stmts_notes}
use Rattle.os_ast.specs.Views.{stmts_tree}
use Rattle.window_check_names.specs.Findings.{noted}
use Rattle.window_check_laws.specs.Room.{HasRoom, stmts_weight}
use Rattle.window_check.proofs.statements.+stmts.Given as goal

abbrev pub invariant-stmts-loop-next : goal.invariant-stmts-loop-next
invariant-stmts-loop-next l = record {
  room : HasRoom l.scopes (stmts_weight (stmts_tree (drop l.next-index l.stmts)));
  scopes : after_stmts l.scopes (stmts_tree (drop l.next-index l.stmts)) ≡ after_stmts l.fn.scopes (stmts_tree l.stmts);
  found : noted l.found (stmts_notes l.scopes (stmts_tree (drop l.next-index l.stmts)))
      ≡ noted l.fn.found (stmts_notes l.fn.scopes (stmts_tree l.stmts));
}
