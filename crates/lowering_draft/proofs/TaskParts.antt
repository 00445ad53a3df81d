-- The tasks of a body, one after another.
use Rattle.std.proofs.Common.{◌≡◌, ◌∙◌, ℕ, List, [], ◌∷◌, ◌++◌, ap, sym, refl}
use Rattle.lowering_draft.specs.Emission.TaskUnits.{with_block_tasks, with_stmt_tasks}
use Rattle.lowering_draft.specs.Emission.Units.{with_task, with_tasks}
use Rattle.lowering_draft.specs.declared.units.Units.{Units}
use Rattle.os_ast.specs.Trees as tree
use Rattle.os_ast.specs.declared.names.Resolved.{Resolved}
use Rattle.lowering_relation.specs.Tasks.{TaskTree, all_tasks_of, tasks_of}

with_tasks-append : (tells : ℕ → Resolved) (captured : List (List ℕ)) (ts us : List TaskTree) (made : Units) →
    with_tasks tells captured (ts ++ us) made ≡ with_tasks tells captured us (with_tasks tells captured ts made)
with_tasks-append tells captured [] us made = refl
with_tasks-append tells captured (t ∷ ts) us made = with_tasks-append tells captured ts us (with_task tells captured t made)

-- the tasks of a statement by the tree, and as a list
mutual
  stmt_tasks-listed : (tells : ℕ → Resolved) (captured : List (List ℕ)) (a : tree.StmtTree) (made : Units) →
      with_stmt_tasks tells captured a made ≡ with_tasks tells captured (tasks_of a) made
  stmt_tasks-listed tells captured tree.StmtTree.Empty made = refl
  stmt_tasks-listed tells captured (tree.Block ss) made = block_tasks-listed tells captured ss made
  stmt_tasks-listed tells captured (tree.StmtTree.Declare ty ds) made = refl
  stmt_tasks-listed tells captured (tree.StmtTree.Change c) made = refl
  stmt_tasks-listed tells captured (tree.StmtTree.Call f args) made = refl
  stmt_tasks-listed tells captured (tree.If c a) made = stmt_tasks-listed tells captured a made
  stmt_tasks-listed tells captured (tree.IfElse c a b) made =
      stmt_tasks-listed tells captured b (with_stmt_tasks tells captured a made)
      ∙ ap (with_tasks tells captured (tasks_of b)) (stmt_tasks-listed tells captured a made)
      ∙ sym (with_tasks-append tells captured (tasks_of a) (tasks_of b) made)
  stmt_tasks-listed tells captured (tree.While c a) made = stmt_tasks-listed tells captured a made
  stmt_tasks-listed tells captured (tree.For start test step a) made = stmt_tasks-listed tells captured a made
  stmt_tasks-listed tells captured (tree.Break m) made = refl
  stmt_tasks-listed tells captured (tree.Continue m) made = refl
  stmt_tasks-listed tells captured (tree.Return m e) made = refl
  stmt_tasks-listed tells captured (tree.Task m cs a) made = refl
  stmt_tasks-listed tells captured (tree.Tick m t arrow e) made = refl
  stmt_tasks-listed tells captured (tree.Taskwait m) made = refl

  pub block_tasks-listed : (tells : ℕ → Resolved) (captured : List (List ℕ)) (ss : tree.Stmts) (made : Units) →
      with_block_tasks tells captured ss made ≡ with_tasks tells captured (all_tasks_of ss) made
  block_tasks-listed tells captured tree.no_stmts made = refl
  block_tasks-listed tells captured (tree.stmt a rest) made =
      block_tasks-listed tells captured rest (with_stmt_tasks tells captured a made)
      ∙ ap (with_tasks tells captured (all_tasks_of rest)) (stmt_tasks-listed tells captured a made)
      ∙ sym (with_tasks-append tells captured (tasks_of a) (all_tasks_of rest) made)
