use Rattle.std.proofs.Common.{◌≡◌, drop, map}
use Rattle.cddf_meaning_plain_tasks.specs.Has.{calls_item}
use Rattle.os_ast.specs.Views.{clause_tree}
use Rattle.cddf_meaning_plain_tasks.proofs.naming.name_item.Given as goal

abbrev pub invariant-loop-clause : goal.invariant-loop-clause
invariant-loop-clause l =
    calls_item l.id (map clause_tree (drop l.clause-index l.clauses)) ≡ calls_item l.id (map clause_tree l.clauses)
