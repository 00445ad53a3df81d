use Rattle.std.proofs.Common.{◌≡◌, drop, map}
use Rattle.os_ast.specs.ClauseMembers.{is_in}
use Rattle.os_ast.specs.FreeNames.{declared_ids}
use Rattle.os_ast.specs.Views.{declarator_tree}
use Rattle.cddf_meaning_plain_tasks.proofs.naming.declare.Given as goal

abbrev pub invariant-loop-declarator : goal.invariant-loop-declarator
invariant-loop-declarator l =
    is_in l.id (declared_ids (map declarator_tree (drop l.declarator-index l.declarators))) ≡ is_in l.id (declared_ids (map declarator_tree l.declarators))
