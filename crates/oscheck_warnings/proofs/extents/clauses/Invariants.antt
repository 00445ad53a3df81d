use Rattle.std.proofs.Common.{◌≡◌, ◌++◌, drop, map}
use Rattle.os_ast.specs.Views.{clause_tree}
use Rattle.oscheck_warnings.specs.Extents.{clauses_extents}
use Rattle.oscheck_warnings.specs.Meanings.{what_at}
use Rattle.oscheck_warnings.proofs.extents.clauses.Given as goal

abbrev pub invariant-loop-clause : goal.invariant-loop-clause
invariant-loop-clause l =
    l.list ++ clauses_extents (what_at l.meanings) (map clause_tree (drop l.clause-index l.clauses))
    ≡ l.fn.list ++ clauses_extents (what_at l.meanings) (map clause_tree l.clauses)
