use Rattle.std.proofs.Common.{◌≡◌, ◌++◌, drop, take, map, length}
use Rattle.cddf_meaning.specs.Tasks.{tasks_in_all}
use Rattle.cddf_meaning_plain_tasks.specs.Sought.{task_of}
use Rattle.os_ast.specs.Views.{stmts_tree}
use Rattle.cddf_meaning_plain_tasks.proofs.tasks.+tasks.Given as goal

abbrev pub invariant-tasks_in_block-loop-stmt : goal.invariant-tasks_in_block-loop-stmt
invariant-tasks_in_block-loop-stmt l =
    (map task_of l.tasks.items ++ tasks_in_all l.known.items (stmts_tree (drop l.stmt-index l.stmts))
    ≡ map task_of l.initial.tasks.items ++ tasks_in_all l.initial.known.items (stmts_tree l.stmts))
    × (take l.outer l.known.items ≡ l.initial.known.items) × (l.outer ≡ length l.initial.known.items)
