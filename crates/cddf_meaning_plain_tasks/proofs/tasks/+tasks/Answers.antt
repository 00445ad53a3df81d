use Rattle.std.proofs.Common.{◌≡◌, ◌++◌, OnOk, map, ap, sym, subst, ◌∙◌}
use Rattle.cddf_meaning.specs.Tasks.{tasks_in}
use Rattle.cddf_meaning_plain_tasks.specs.Sought.{task_of}
use Rattle.os_ast.proofs.Rows.{stmt_tree-block}
use Rattle.os_ast.specs.Trees as ast
use Rattle.os_ast.specs.Views.{stmt_tree}
use Rattle.cddf_meaning_plain_tasks.proofs.tasks.+tasks.Goals as goal

pub tasks_in-returns-in-Block-clause-tasks : goal.tasks_in-returns-in-Block-clause-tasks
tasks_in-returns-in-Block-clause-tasks t c =
    let tree = ap stmt_tree c.in-Block.is ∙ stmt_tree-block c.in-Block.stmts in
    let P : ast.StmtTree → Type 0 = λ a.
    OnOk c.tasks_in_block.result
    (map task_of c.tasks_in_block.new.tasks.items ≡ map task_of c.args.tasks.now.items ++ tasks_in c.args.known.now.items a) in
    subst P (sym tree) c.tasks_in_block.ensures.tasks
