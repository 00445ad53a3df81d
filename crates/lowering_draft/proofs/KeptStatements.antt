-- The code of statements keeps the labels that are there.
use Rattle.std.proofs.Common.{ℕ, Option, Some, None}
use Rattle.lowering_draft.proofs.DeclaratorsStand.{declarators_kept, start_kept}
use Rattle.lowering_draft.proofs.Keeping.{Keeps, KeepsLabels, kept, keeps_instr, keeps_label, keeps_place, keeps_spawn, next_is_new}
use Rattle.lowering_draft.proofs.KeptExpressions.{and_then_kept, change_kept, condition_kept, expr_kept}
use Rattle.lowering_draft.proofs.TasksStand.{items_kept, tick_kept}
use Rattle.lowering_draft.specs.Draft.{next_label, with_label, with_place}
use Rattle.lowering_draft.specs.Emission.Conditions.{condition_code}
use Rattle.lowering_draft.specs.Emission.Expressions.{Emission}
use Rattle.lowering_draft.specs.Emission.Statements.{StmtPart, begin_code, block_code, closed, end_of, in_loop, jump_on, loop_code, opened, rest_code, round_code, stmt_code, test_code}
use Rattle.lowering_draft.specs.declared.draft.Draft.{Draft}
use Rattle.lowering_draft.specs.declared.draft.Label.{Label}
use Rattle.lowering_draft.specs.declared.exits.Exits.{Exits}
use Rattle.os_ast.specs.ClauseMembers.{members}
use Rattle.os_ast.specs.Trees as tree
use Rattle.os_ast.specs.declared.names.Resolved.{Resolved}
use Rattle.os_code.specs.declared.instr.Instr.TheVariants.{Drop, Jump, Turn}

-- wherever a part is left and goes on
abbrev pub KeepsAll : StmtPart → Type 0
KeepsAll f = (x : Exits) (next : Option Label) → KeepsLabels (f x next)

pub jump_kept : (next : Option Label) {d m : Draft} → Keeps d m → Keeps d (jump_on next m)
jump_kept None k = k
jump_kept (Some next) k = keeps_instr k (Jump next.number)

pub opened_kept : (next : Option Label) → KeepsLabels (opened next)
opened_kept None d = keeps_label (kept d)
opened_kept (Some next) d = kept d

closed_kept : (next : Option Label) {d m : Draft} → Keeps d m → Keeps d (closed next (end_of next d) m)
closed_kept None {d} k = keeps_place k (next_label d) (next_is_new (kept d))
closed_kept (Some next) k = k

begun_kept : {test : Emission} → KeepsLabels test → (d : Draft) → Keeps d (begin_code (next_label d) test (with_label d))
begun_kept k d = and_then_kept (keeps_instr (keeps_place (keeps_label (kept d)) (next_label d) (next_is_new (kept d))) Turn) k

module _ (tells : ℕ → Resolved) where
  pub if_kept : (c : tree.ExprTree) (end : Label) (x : Exits) (next : Option Label) {a : StmtPart} → KeepsAll a
      → KeepsLabels (λ d. a x next (condition_code tells c end d))
  if_kept c end x next k d = and_then_kept (condition_kept tells c end d) (k x next)

  pub if_else_kept : (c : tree.ExprTree) (end : Label) (x : Exits) (next : Option Label) {a s : StmtPart} → KeepsAll a → KeepsAll s
      → KeepsLabels (λ d. s x next (with_place (a x (Some end) (condition_code tells c (next_label d) (with_label d))) (next_label d)))
  if_else_kept c end x next ka ks d =
      and_then_kept
      (keeps_place
      (and_then_kept (and_then_kept (keeps_label (kept d)) (condition_kept tells c (next_label d))) (ka x (Some end)))
      (next_label d) (next_is_new (kept d)))
      (ks x next)

  pub test_kept : (test : Option tree.ExprTree) (end : Label) → KeepsLabels (test_code tells test end)
  test_kept None end d = kept d
  test_kept (Some e) end d = condition_kept tells e end d

  pub round_kept : (step : Option tree.ChangeTree) (again : Label) (x : Exits) (end : Label) {a : StmtPart} → KeepsAll a
      → KeepsLabels (round_code tells step again x end a)
  round_kept None again x end k d = k (in_loop x end again) (Some again) d
  round_kept (Some c) again x end k d =
      keeps_instr
      (and_then_kept (keeps_place (and_then_kept (keeps_label (kept d)) (k (in_loop x end (next_label d)) None)) (next_label d) (next_is_new (kept d)))
      (change_kept tells c))
      (Jump again.number)

  pub loop_kept : (test : Option tree.ExprTree) (step : Option tree.ChangeTree) (x : Exits) (end : Label) {a : StmtPart} → KeepsAll a
      → KeepsLabels (loop_code tells test step x end a)
  loop_kept test step x end k d = and_then_kept (begun_kept (test_kept test end) d) (round_kept step (next_label d) x end k)

  mutual
    pub stmt_kept : (s : tree.StmtTree) → KeepsAll (stmt_code tells s)
    stmt_kept tree.StmtTree.Empty x next d = jump_kept next (kept d)
    stmt_kept (tree.Block ss) x next d = block_kept ss x next d
    stmt_kept (tree.StmtTree.Declare ty ds) x next d = jump_kept next (declarators_kept tells ds d)
    stmt_kept (tree.StmtTree.Change c) x next d = jump_kept next (change_kept tells c d)
    stmt_kept (tree.StmtTree.Call f args) x next d = jump_kept next (keeps_instr (expr_kept tells (tree.ExprTree.Call f args) d) Drop)
    stmt_kept (tree.If c a) x next d =
        closed_kept next (and_then_kept (opened_kept next d) (if_kept c (end_of next d) x next {a = stmt_code tells a} (stmt_kept a)))
    stmt_kept (tree.IfElse c a b) x next d =
        closed_kept next
        (and_then_kept (opened_kept next d) (if_else_kept c (end_of next d) x next {a = stmt_code tells a} {s = stmt_code tells b} (stmt_kept a) (stmt_kept b)))
    stmt_kept (tree.While c a) x next d =
        closed_kept next (and_then_kept (opened_kept next d) (loop_kept (Some c) None x (end_of next d) {a = stmt_code tells a} (stmt_kept a)))
    stmt_kept (tree.For start test step a) x next d =
        closed_kept next
        (and_then_kept
        (and_then_kept (opened_kept next d) (start_kept tells start))
        (loop_kept test step x (end_of next d) {a = stmt_code tells a} (stmt_kept a)))
    stmt_kept (tree.Break m) x next d = keeps_instr (kept d) (Jump x.broke.number)
    stmt_kept (tree.Continue m) x next d = keeps_instr (kept d) (Jump x.continued.number)
    stmt_kept (tree.Return m e) x next d = keeps_instr (expr_kept tells e d) x.leaves
    stmt_kept (tree.Task m cs a) x next d = jump_kept next (keeps_spawn (items_kept tells (members cs) d))
    stmt_kept (tree.Tick m t arrow e) x next d = jump_kept next (tick_kept tells t arrow.line e d)
    stmt_kept (tree.Taskwait m) x next d = jump_kept next (kept d)

    pub block_kept : (ss : tree.Stmts) → KeepsAll (block_code tells ss)
    block_kept tree.no_stmts x next d = jump_kept next (kept d)
    block_kept (tree.stmt a rest) x next d = rest_kept rest {a = stmt_code tells a} (stmt_kept a) x next d

    pub rest_kept : (rest : tree.Stmts) {a : StmtPart} → KeepsAll a → (x : Exits) (next : Option Label) → KeepsLabels (rest_code tells rest x next a)
    rest_kept tree.no_stmts k x next d = k x next d
    rest_kept (tree.stmt b rest) k x next d = and_then_kept (k x None d) (rest_kept rest {a = stmt_code tells b} (stmt_kept b) x next)
