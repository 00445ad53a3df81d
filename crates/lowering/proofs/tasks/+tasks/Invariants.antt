use Rattle.std.proofs.Common.{◌≡◌, drop}
use Rattle.lowering_draft.specs.Emission.TaskUnits.{with_block_tasks}
use Rattle.os_ast.specs.Views.{stmts_tree}
use Rattle.lowering_relation.specs.Names.{told_at}
use Rattle.lowering.proofs.tasks.+tasks.Given as goal

abbrev pub invariant-add_all_tasks-loop-stmt : goal.invariant-add_all_tasks-loop-stmt
invariant-add_all_tasks-loop-stmt l =
    with_block_tasks (told_at l.told.names.now) l.captured (stmts_tree (drop l.stmt-index l.stmts)) l.made
    ≡ with_block_tasks (told_at l.told.names.now) l.captured (stmts_tree l.stmts) l.fn.made
