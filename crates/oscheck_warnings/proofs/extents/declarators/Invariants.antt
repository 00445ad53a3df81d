use Rattle.std.proofs.Common.{◌≡◌, ◌++◌, drop, map}
use Rattle.os_ast.specs.Views.{declarator_tree}
use Rattle.oscheck_warnings.specs.Extents.{declarators_extents}
use Rattle.oscheck_warnings.specs.Meanings.{what_at}
use Rattle.oscheck_warnings.proofs.extents.declarators.Given as goal

abbrev pub invariant-loop-declarator : goal.invariant-loop-declarator
invariant-loop-declarator l =
    l.list ++ declarators_extents (what_at l.meanings) (map declarator_tree (drop l.declarator-index l.declarators))
    ≡ l.fn.list ++ declarators_extents (what_at l.meanings) (map declarator_tree l.declarators)
