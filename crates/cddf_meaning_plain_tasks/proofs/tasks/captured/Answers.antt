use Rattle.std.proofs.Common.{◌<◌, ◌+◌, ◌++◌, length, drop, map, refl, ap, arith, ◌∙◌}
use Rattle.cddf_meaning.specs.Tasks.{among}
use Rattle.cddf_meaning_plain_tasks.proofs.Finding.{among-next}
use Rattle.os_ast.specs.FreeNames.{task_names}
use Rattle.os_ast.specs.ClauseMembers.{members}
use Rattle.os_ast.specs.Views.{clause_tree, stmt_tree}
use Rattle.cddf_meaning_plain_tasks.proofs.tasks.captured.Goals as goal

pub loop-id-preserved : goal.loop-id-preserved
loop-id-preserved c =
    let names = task_names (members (map clause_tree c.args.site.now.clauses)) (stmt_tree c.args.site.now.body) in
    let ids = c.as_slice-id-items.result.now in
    let inside : c.loop-id.id-index < length ids = omega (arith, c.loop-id-test) in
    ap (λ xs. xs ++ among names (drop (c.loop-id.id-index + 1) ids)) c.in_ok-capture.ensures
    ∙ among-next names c.loop-id.captured ids c.loop-id.id-index _ _ inside refl
    ∙ c.loop-id.invariant
