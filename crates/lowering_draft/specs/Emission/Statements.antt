-- The code of statements. Behind a statement the code goes on at the next place, or at a label.
use Rattle.std.specs.Prelude.{ℕ, zero, suc, Option, Some, None}
use Rattle.lowering_draft.specs.Draft.{next_label, with_instr, with_label, with_place, with_spawn}
use Rattle.lowering_draft.specs.Emission.Changes.{change_code}
use Rattle.lowering_draft.specs.Emission.Conditions.{condition_code}
use Rattle.lowering_draft.specs.Emission.Declarators.{declarators_code, start_code}
use Rattle.lowering_draft.specs.Emission.Expressions.{Emission, expr_code}
use Rattle.lowering_draft.specs.Emission.Tasks.{items_code, tick_code}
use Rattle.lowering_draft.specs.declared.draft.Draft.{Draft}
use Rattle.lowering_draft.specs.declared.draft.Label.{Label}
use Rattle.lowering_draft.specs.declared.exits.Exits.{Exits}
use Rattle.os_ast.specs.ClauseMembers.{members}
use Rattle.os_ast.specs.Trees as tree
use Rattle.os_ast.specs.declared.names.Resolved.{Resolved}
use Rattle.os_code.specs.declared.instr.Instr.TheVariants.{Drop, Jump, Turn}

abbrev pub in_loop : Exits → (broke continued : Label) → Exits
in_loop x broke continued = record x { broke = broke; continued = continued }

-- Where the code is to go on at a label, it jumps there; else it goes on at the next place.
abbrev pub jump_on : Option Label → Emission
jump_on None draft = draft
jump_on (Some next) draft = with_instr draft (Jump next.number)

-- A statement that needs a label for where the code goes on takes the given one, or makes one and places it at its end.
abbrev pub end_of : Option Label → Draft → Label
end_of None draft = next_label draft
end_of (Some next) draft = next

abbrev pub opened : Option Label → Emission
opened None draft = with_label draft
opened (Some next) draft = draft

abbrev pub closed : Option Label → Label → Emission
closed None end draft = with_place draft end
closed (Some next) end draft = draft

-- a part, by where its `break` and `continue` go, and by where the code goes on behind it
abbrev pub StmtPart : Type 0
StmtPart = Exits → Option Label → Emission

abbrev pub if_code : Exits → Option Label → (end : Label) → (condition : Label → Emission) → StmtPart → Emission
if_code x next end condition a draft = closed next end (a x next (condition end draft))

abbrev pub if_else_code : Exits → Option Label → (end otherwise : Label) → (condition : Label → Emission) → StmtPart → StmtPart → Emission
if_else_code x next end otherwise condition a b draft =
    closed next end (b x next (with_place (a x (Some end) (condition otherwise draft)) otherwise))

-- A loop begins with its turn and its test.
abbrev pub begin_code : (again : Label) → (test : Emission) → Emission
begin_code again test draft = test (with_instr (with_place draft again) Turn)

-- Without a step the body goes on at the beginning; else at the step, which stands behind it.
abbrev pub step_code : (step again : Label) → Exits → (end : Label) → StmtPart → Emission → Emission
step_code step again x end a change draft =
    with_instr (change (with_place (a (in_loop x end step) None draft) step)) (Jump again.number)

abbrev pub round_code : (ℕ → Resolved) → Option tree.ChangeTree → (again : Label) → Exits → (end : Label) → StmtPart → Emission
round_code tells None again x end a draft = a (in_loop x end again) (Some again) draft
round_code tells (Some c) again x end a draft = step_code (next_label draft) again x end a (change_code tells c) (with_label draft)

abbrev pub test_code : (ℕ → Resolved) → Option tree.ExprTree → (end : Label) → Emission
test_code tells None end draft = draft
test_code tells (Some e) end draft = condition_code tells e end draft

abbrev pub loop_from : (ℕ → Resolved) → Option tree.ExprTree → Option tree.ChangeTree → (again : Label) → Exits → (end : Label) → StmtPart
    → Emission
loop_from tells test step again x end a draft = round_code tells step again x end a (begin_code again (test_code tells test end) draft)

abbrev pub loop_code : (ℕ → Resolved) → Option tree.ExprTree → Option tree.ChangeTree → Exits → (end : Label) → StmtPart → Emission
loop_code tells test step x end a draft = loop_from tells test step (next_label draft) x end a (with_label draft)

-- Statements without statements in them. `break`, `continue` and `return` don't go on.
abbrev pub simple_code : (ℕ → Resolved) → Exits → Option Label → tree.StmtTree → Emission
simple_code tells x next (tree.StmtTree.Declare ty ds) draft = jump_on next (declarators_code tells ds draft)
simple_code tells x next (tree.StmtTree.Change c) draft = jump_on next (change_code tells c draft)
simple_code tells x next (tree.StmtTree.Call f args) draft =
    jump_on next (with_instr (expr_code tells (tree.ExprTree.Call f args) draft) Drop)
simple_code tells x next (tree.Break m) draft = with_instr draft (Jump x.broke.number)
simple_code tells x next (tree.Continue m) draft = with_instr draft (Jump x.continued.number)
simple_code tells x next (tree.Return m e) draft = with_instr (expr_code tells e draft) x.leaves
simple_code tells x next (tree.Task m cs a) draft = jump_on next (with_spawn (items_code tells (members cs) draft))
simple_code tells x next (tree.Tick m t arrow e) draft = jump_on next (tick_code tells t arrow.line e draft)
simple_code tells x next _ draft = jump_on next draft

abbrev mutual
  pub stmt_code : (ℕ → Resolved) → tree.StmtTree → StmtPart
  stmt_code tells (tree.Block ss) x next draft = block_code tells ss x next draft
  stmt_code tells (tree.If c a) x next draft =
      if_code x next (end_of next draft) (condition_code tells c) (stmt_code tells a) (opened next draft)
  stmt_code tells (tree.IfElse c a b) x next draft =
      if_else_code x next (end_of next draft) (next_label (opened next draft)) (condition_code tells c) (stmt_code tells a) (stmt_code tells b)
      (with_label (opened next draft))
  stmt_code tells (tree.While c a) x next draft =
      closed next (end_of next draft) (loop_code tells (Some c) None x (end_of next draft) (stmt_code tells a) (opened next draft))
  stmt_code tells (tree.For start test step a) x next draft =
      closed next (end_of next draft)
      (loop_code tells test step x (end_of next draft) (stmt_code tells a) (start_code tells start (opened next draft)))
  stmt_code tells s x next draft = simple_code tells x next s draft

  -- The last statement of a block goes on where the block does.
  pub block_code : (ℕ → Resolved) → tree.Stmts → StmtPart
  block_code tells tree.no_stmts x next draft = jump_on next draft
  block_code tells (tree.stmt a rest) x next draft = rest_code tells rest x next (stmt_code tells a) draft

  -- the code of a statement and of those that stand behind it in a block
  pub rest_code : (ℕ → Resolved) → tree.Stmts → Exits → Option Label → StmtPart → Emission
  rest_code tells tree.no_stmts x next a draft = a x next draft
  rest_code tells (tree.stmt b rest) x next a draft = rest_code tells rest x next (stmt_code tells b) (a x None draft)

-- statements of a block, where none or some stood before
abbrev pub tail_code : (ℕ → Resolved) → tree.Stmts → StmtPart
tail_code tells tree.no_stmts x next draft = draft
tail_code tells (tree.stmt a rest) x next draft = rest_code tells rest x next (stmt_code tells a) draft

abbrev pub next_behind : (behind : ℕ) → Option Label → Option Label
next_behind zero next = next
next_behind (suc behind) next = None
