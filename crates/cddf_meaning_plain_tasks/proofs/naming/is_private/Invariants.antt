use Rattle.std.proofs.Common.{◌≡◌, drop, map}
use Rattle.cddf_meaning_plain_tasks.specs.Has.{lists}
use Rattle.os_ast.specs.Views.{clause_tree}
use Rattle.cddf_meaning_plain_tasks.proofs.naming.is_private.Given as goal

abbrev pub invariant-loop-clause : goal.invariant-loop-clause
invariant-loop-clause l =
    lists l.id (map clause_tree (drop l.clause-index l.clauses)) ≡ lists l.id (map clause_tree l.clauses)
