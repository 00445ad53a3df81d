use Rattle.std.proofs.Common.{◌≡◌, ◌++◌, drop, map}
use Rattle.os_ast.specs.Views.{declarator_tree}
use Rattle.oscheck_warnings.specs.Accesses.{declarators_accesses}
use Rattle.oscheck_warnings.proofs.expressions.declarators.Given as goal

abbrev pub invariant-loop-declarator : goal.invariant-loop-declarator
invariant-loop-declarator l =
    l.list ++ declarators_accesses l.site (map declarator_tree (drop l.declarator-index l.declarators))
    ≡ l.fn.list ++ declarators_accesses l.site (map declarator_tree l.declarators)
