use Rattle.std.proofs.Common.{◌≡◌, drop, map}
use Rattle.lowering_draft.specs.Emission.Declarators.{declarators_code}
use Rattle.os_ast.specs.Views.{declarator_tree}
use Rattle.lowering_relation.specs.Names.{told_at}
use Rattle.lowering_expressions.proofs.declarators.emit_declarators.Given as goal

abbrev pub invariant-loop-declarator : goal.invariant-loop-declarator
invariant-loop-declarator l =
    declarators_code (told_at l.told.names.now) (map declarator_tree (drop l.declarator-index l.declarators)) l.draft
    ≡ declarators_code (told_at l.told.names.now) (map declarator_tree l.declarators) l.fn.draft
