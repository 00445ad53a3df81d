use Rattle.std.proofs.Common.{◌≡◌, ◌++◌, drop, map}
use Rattle.cddf_meaning_plain_tasks.specs.Has.{clauses_item_ids}
use Rattle.os_ast.specs.Views.{clause_tree}
use Rattle.cddf_meaning_plain_tasks.proofs.items.item_ids.Given as goal

abbrev pub invariant-loop-clause : goal.invariant-loop-clause
invariant-loop-clause l =
    l.ids.items ++ clauses_item_ids (map clause_tree (drop l.clause-index l.clauses)) ≡ clauses_item_ids (map clause_tree l.clauses)
