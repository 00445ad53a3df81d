use Rattle.std.proofs.Common.{◌≡◌, ◌++◌, drop, map}
use Rattle.cddf_meaning.specs.Tasks.{known_declarator}
use Rattle.os_ast.specs.Unsigned.{is_unsigned}
use Rattle.os_ast.specs.Views.{declarator_tree}
use Rattle.cddf_meaning_plain_tasks.proofs.tasks.declare.Given as goal

abbrev pub invariant-loop-declarator : goal.invariant-loop-declarator
invariant-loop-declarator l =
    l.known.items ++ map (known_declarator (is_unsigned l.ty)) (map declarator_tree (drop l.declarator-index l.declarators))
    ≡ l.initial.known.items ++ map (known_declarator (is_unsigned l.ty)) (map declarator_tree l.declarators)
