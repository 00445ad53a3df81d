-- The code that drafts of statements and blocks become stands for them.
use Rattle.std.proofs.Common.{◌∙◌, ℕ, [], ◌++◌, length, Some, None, subst, sym, refl}
use Rattle.lowering_draft.proofs.Becoming.{back, instr_stands}
use Rattle.lowering_draft.proofs.BranchesStand.{if_else_made, if_else_stands, if_made, if_stands}
use Rattle.lowering_draft.proofs.ChangesStand.{change_stands}
use Rattle.lowering_draft.proofs.DeclaratorsStand.{start_kept}
use Rattle.lowering_draft.proofs.ExpressionsStand.{length-instr}
use Rattle.lowering_draft.proofs.Givens.{declarators_given}
use Rattle.lowering_draft.proofs.Going.{Goes, GoesAll, StmtAt, StmtsAt}
use Rattle.lowering_draft.proofs.GoingOn.{closed_stands, goes_behind, jump_stands, still_stands}
use Rattle.lowering_draft.proofs.KeptExpressions.{and_then_kept}
use Rattle.lowering_draft.proofs.KeptStatements.{block_kept, if_else_kept, if_kept, loop_kept, stmt_kept}
use Rattle.lowering_draft.proofs.LoopsStand.{loop_stands, start_stands}
use Rattle.lowering_draft.proofs.Numbering.{first_numbered, second_numbered, still_numbered}
use Rattle.lowering_draft.proofs.SimpleStand.{call_stands, declare_stands, return_stands, task_stands, tick_goes}
use Rattle.lowering_draft.proofs.Spawning.{start_spawned, stmt_spawned}
use Rattle.lowering_draft.specs.Draft.{with_instr}
use Rattle.lowering_draft.specs.Emission.Changes.{change_code}
use Rattle.lowering_draft.specs.Emission.Declarators.{start_code}
use Rattle.lowering_draft.specs.Emission.Statements.{block_code, loop_code, stmt_code}
use Rattle.lowering_draft.specs.Going.{AreNumbered, IsLeave}
use Rattle.os_ast.specs.Leveled as leveled
use Rattle.os_ast.specs.Leveled.{AreStmts, IsStmt}
use Rattle.os_ast.specs.Trees as tree
use Rattle.os_code.specs.declared.instr.Instr.TheVariants.{Jump}
use Rattle.os_code.specs.declared.parts.Parts.{Parts}
use Rattle.lowering_relation.specs.Statements.{Body}
use Rattle.lowering_relation.specs.Tasks.{all_tasks_of, tasks_of}

module _ (code : Parts) (place_of : ℕ → ℕ) (b : Body) (leave : IsLeave b.leaves) where
  -- a statement, and those behind it in its block
  stmts_stand : (a : tree.StmtTree) → Goes code place_of b a → (rest : tree.Stmts) → GoesAll code place_of b rest → GoesAll code place_of b (tree.stmt a rest)
  stmts_stand a goes_a tree.no_stmts goes_on x leaves next d are becomes =
      let to = length (stmt_code b.tells a x next d).instrs in
      goes_behind code place_of (StmtAt code place_of b a x) (StmtsAt code place_of b (tree.stmt a tree.no_stmts) x) (length d.instrs) (length d.instrs) to
      (λ n to h. h) next (goes_a x leaves next d (first_numbered b.tasks d.spawned (tasks_of a) [] are) becomes)
  stmts_stand a goes_a (tree.stmt c rest) goes_on x leaves next d are becomes =
      let behind = tree.stmt c rest in
      let da = stmt_code b.tells a x None d in
      let to = length (block_code b.tells behind x next da).instrs in
      let numbered = first_numbered b.tasks d.spawned (tasks_of a) (all_tasks_of behind) are in
      let first = goes_a x leaves None d numbered (back (block_kept b.tells behind x next da) becomes) in
      let left : AreNumbered b.tasks da.spawned (all_tasks_of behind) =
      subst (λ n. AreNumbered b.tasks n (all_tasks_of behind)) (sym (stmt_spawned b.tells a x None d))
      (second_numbered b.tasks d.spawned (tasks_of a) (all_tasks_of behind) are) in
      goes_behind code place_of (StmtsAt code place_of b behind x) (StmtsAt code place_of b (tree.stmt a behind) x) (length d.instrs) (length da.instrs) to
      (λ n to h. (length da.instrs, first, h)) next (goes_on x leaves next da left becomes)

  mutual
    pub stmt_stands : (s : tree.StmtTree) → IsStmt s → Goes code place_of b s
    stmt_stands tree.StmtTree.Empty leveled.empty x leaves next d are becomes =
        jump_stands code place_of (StmtAt code place_of b tree.StmtTree.Empty x) (length d.instrs) next d (λ made. (refl, refl)) becomes
    stmt_stands (tree.Block ss) (leveled.block is) x leaves next d are becomes =
        let to = length (block_code b.tells ss x next d).instrs in
        goes_behind code place_of (StmtsAt code place_of b ss x) (StmtAt code place_of b (tree.Block ss) x) (length d.instrs) (length d.instrs) to
        (λ n to h. h) next (block_stands ss is x leaves next d are becomes)
    stmt_stands (tree.StmtTree.Change c) (leveled.change is) x leaves next d are becomes =
        jump_stands code place_of (StmtAt code place_of b (tree.StmtTree.Change c) x) (length d.instrs) next (change_code b.tells c d)
        (λ made. (change_stands b.tells c is d made, refl)) becomes
    stmt_stands (tree.StmtTree.Call f args) (leveled.call is) x leaves next d are becomes = call_stands code place_of b f args is x leaves next d are becomes
    stmt_stands (tree.If c a) (leveled.if_alone is_c is_a) x leaves next d are becomes =
        closed_stands code place_of (if_made b c a x next) (StmtAt code place_of b (tree.If c a) x)
        (λ end. if_kept b.tells c end x next {a = stmt_code b.tells a} (stmt_kept b.tells a)) next d
        (λ end e same made there.
        let numbered = still_numbered b.tasks (tasks_of a) d e same are in
        if_stands code place_of b c is_c a (stmt_stands a is_a) x leaves next end e numbered made there) becomes
    stmt_stands (tree.IfElse c a s) (leveled.if_else is_c is_a no_else is_s) x leaves next d are becomes =
        closed_stands code place_of (if_else_made b c a s x next) (StmtAt code place_of b (tree.IfElse c a s) x)
        (λ end. if_else_kept b.tells c end x next {a = stmt_code b.tells a} {s = stmt_code b.tells s} (stmt_kept b.tells a) (stmt_kept b.tells s)) next d
        (λ end e same made there.
        let numbered = still_numbered b.tasks (tasks_of a ++ tasks_of s) d e same are in
        if_else_stands code place_of b c is_c a s (stmt_stands a is_a) (stmt_stands s is_s) x leaves next end e numbered made there) becomes
    stmt_stands (tree.While c a) (leveled.while is_c is_a) x leaves next d are becomes =
        closed_stands code place_of (λ end e. loop_code b.tells (Some c) None x end (stmt_code b.tells a) e) (StmtAt code place_of b (tree.While c a) x)
        (λ end. loop_kept b.tells (Some c) None x end {a = stmt_code b.tells a} (stmt_kept b.tells a)) next d
        (λ end e same made there.
        let numbered = still_numbered b.tasks (tasks_of a) d e same are in
        loop_stands code place_of b (Some c) (leveled.present is_c) None leveled.absent a (stmt_stands a is_a) x leaves end e numbered made) becomes
    stmt_stands (tree.For start test step a) (leveled.for is_start is_test is_step is_a) x leaves next d are becomes =
        closed_stands code place_of (λ end e. loop_code b.tells test step x end (stmt_code b.tells a) (start_code b.tells start e))
        (StmtAt code place_of b (tree.For start test step a) x)
        (λ end e. and_then_kept (start_kept b.tells start e) (loop_kept b.tells test step x end {a = stmt_code b.tells a} (stmt_kept b.tells a))) next d
        (λ end e same made there.
        let begun = start_code b.tells start e in
        let numbered = still_numbered b.tasks (tasks_of a) d begun (start_spawned b.tells start e ∙ same) are in (
          length begun.instrs,
          start_stands b.tells start is_start e (back (loop_kept b.tells test step x end {a = stmt_code b.tells a} (stmt_kept b.tells a) begun) made),
          loop_stands code place_of b test is_test step is_step a (stmt_stands a is_a) x leaves end begun numbered made,
        )) becomes
    stmt_stands (tree.Break m) leveled.break x leaves next d are becomes =
        let jump = Jump x.broke.number in
        still_stands code place_of (StmtAt code place_of b (tree.Break m) x) (length d.instrs) (length (with_instr d jump).instrs) next
        (λ n. (instr_stands d jump becomes, sym (length-instr d jump)))
    stmt_stands (tree.Continue m) leveled.continue x leaves next d are becomes =
        let jump = Jump x.continued.number in
        still_stands code place_of (StmtAt code place_of b (tree.Continue m) x) (length d.instrs) (length (with_instr d jump).instrs) next
        (λ n. (instr_stands d jump becomes, sym (length-instr d jump)))
    stmt_stands (tree.Return m e) (leveled.return is) x leaves next d are becomes = return_stands code place_of b leave m e is x leaves next d are becomes
    stmt_stands (tree.Task m cs a) (leveled.task is is_a) x leaves next d are becomes = task_stands code place_of b m cs is a x leaves next d are becomes
    stmt_stands (tree.Tick m t arrow e) (leveled.tick is_t is_e) x leaves next d are becomes =
        tick_goes code place_of b m t is_t arrow e is_e x leaves next d are becomes
    stmt_stands (tree.Taskwait m) leveled.taskwait x leaves next d are becomes =
        jump_stands code place_of (StmtAt code place_of b (tree.Taskwait m) x) (length d.instrs) next d (λ made. (refl, refl)) becomes
    stmt_stands (tree.StmtTree.Declare ty ds) is x leaves next d are becomes = elim is [ ]

    pub block_stands : (ss : tree.Stmts) → AreStmts ss → GoesAll code place_of b ss
    block_stands tree.no_stmts leveled.no_stmts x leaves next d are becomes =
        jump_stands code place_of (StmtsAt code place_of b tree.no_stmts x) (length d.instrs) next d (λ made. (refl, refl)) becomes
    block_stands (tree.stmt (tree.StmtTree.Declare ty ds) rest) (leveled.declare is more) x leaves next d are becomes =
        let goes = declare_stands code place_of b ty ds (declarators_given is) in
        stmts_stand (tree.StmtTree.Declare ty ds) goes rest (block_stands rest more) x leaves next d are becomes
    block_stands (tree.stmt a rest) (leveled.stmt is more) x leaves next d are becomes =
        stmts_stand a (stmt_stands a is) rest (block_stands rest more) x leaves next d are becomes
