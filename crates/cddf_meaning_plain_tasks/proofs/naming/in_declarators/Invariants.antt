use Rattle.std.proofs.Common.{◌≡◌, drop, map}
use Rattle.cddf_meaning_plain_tasks.specs.Has.{has_declarators}
use Rattle.os_ast.specs.Views.{declarator_tree}
use Rattle.cddf_meaning_plain_tasks.proofs.naming.in_declarators.Given as goal

abbrev pub invariant-loop-declarator : goal.invariant-loop-declarator
invariant-loop-declarator l =
    has_declarators l.id (map declarator_tree (drop l.declarator-index l.declarators)) ≡ has_declarators l.id (map declarator_tree l.declarators)
