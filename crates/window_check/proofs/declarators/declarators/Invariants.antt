use Rattle.std.proofs.Common.{◌≡◌, drop, map}
use Rattle.os_ast.specs.Notes.Declarators.{after_declarators, declarators_notes}
use Rattle.os_ast.specs.Views.{declarator_tree}
use Rattle.window_check_names.specs.Findings.{noted}
use Rattle.window_check_laws.specs.Room.{HasRoom, declarators_weight}
use Rattle.window_check.proofs.declarators.declarators.Given as goal

abbrev pub invariant-loop-next : goal.invariant-loop-next
invariant-loop-next l = record {
  room : HasRoom l.scopes (declarators_weight (map declarator_tree (drop l.next-index l.declarators)));
  scopes : after_declarators l.scopes (map declarator_tree (drop l.next-index l.declarators)) ≡ after_declarators l.fn.scopes (map declarator_tree l.declarators);
  found : noted l.found (declarators_notes l.scopes (map declarator_tree (drop l.next-index l.declarators)))
      ≡ noted l.fn.found (declarators_notes l.fn.scopes (map declarator_tree l.declarators));
}
