use Rattle.std.proofs.Common.{◌≡◌, drop, map}
use Rattle.cddf_meaning_plain_tasks.specs.Has.{has_clauses}
use Rattle.os_ast.specs.Views.{clause_tree}
use Rattle.cddf_meaning_plain_tasks.proofs.naming.in_clauses.Given as goal

abbrev pub invariant-loop-clause : goal.invariant-loop-clause
invariant-loop-clause l =
    has_clauses l.id (map clause_tree (drop l.clause-index l.clauses)) ≡ has_clauses l.id (map clause_tree l.clauses)
