use Rattle.std.proofs.Common.{◌≡◌, ◌++◌, drop, map}
use Rattle.cddf_meaning.specs.Tasks.{among}
use Rattle.os_ast.specs.FreeNames.{task_names}
use Rattle.os_ast.specs.ClauseMembers.{members}
use Rattle.os_ast.specs.Views.{clause_tree, stmt_tree}
use Rattle.cddf_meaning_plain_tasks.proofs.tasks.captured.Given as goal

abbrev pub invariant-loop-id : goal.invariant-loop-id
invariant-loop-id l =
    l.captured ++ among (task_names (members (map clause_tree l.site.clauses)) (stmt_tree l.site.body)) (drop l.id-index l.id-items)
    ≡ among (task_names (members (map clause_tree l.site.clauses)) (stmt_tree l.site.body)) l.id-items
