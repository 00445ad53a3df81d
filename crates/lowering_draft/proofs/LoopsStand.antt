-- The code of a loop stands for it, by the label of where it ends.
use Rattle.std.proofs.Common.{◌≡◌, ◌∙◌, ℕ, length, Option, Some, None, slice_get, subst, sym, refl}
use Rattle.lowering_draft.proofs.Becoming.{back, before_place, instr_stands, placed_here}
use Rattle.lowering_draft.proofs.ChangesStand.{change_stands}
use Rattle.lowering_draft.proofs.ConditionsStand.{condition_stands}
use Rattle.lowering_draft.proofs.DeclaratorsStand.{declarators_stand}
use Rattle.lowering_draft.proofs.ExpressionsStand.{length-instr}
use Rattle.lowering_draft.proofs.Givens.{heads_given}
use Rattle.lowering_draft.proofs.Going.{Goes}
use Rattle.lowering_draft.proofs.GoingOn.{new_is_open, new_is_within}
use Rattle.lowering_draft.proofs.Keeping.{kept, keeps_instr}
use Rattle.lowering_draft.proofs.KeptExpressions.{change_kept}
use Rattle.lowering_draft.proofs.KeptStatements.{round_kept, stmt_kept, test_kept}
use Rattle.lowering_draft.proofs.Numbering.{still_numbered}
use Rattle.lowering_draft.proofs.Spawning.{test_spawned}
use Rattle.lowering_draft.specs.Draft.{Becomes, next_label, with_instr, with_label, with_place}
use Rattle.lowering_draft.specs.Emission.Changes.{change_code}
use Rattle.lowering_draft.specs.Emission.Declarators.{start_code}
use Rattle.lowering_draft.specs.Emission.Statements.{in_loop, loop_code, round_code, stmt_code, test_code}
use Rattle.lowering_draft.specs.Going.{AreNumbered}
use Rattle.lowering_draft.specs.declared.draft.Draft.{Draft}
use Rattle.lowering_draft.specs.declared.draft.Label.{Label}
use Rattle.lowering_draft.specs.declared.exits.Exits.{Exits}
use Rattle.os_ast.specs.Leveled as leveled
use Rattle.os_ast.specs.Leveled.{IsChange, IsExpr, IsOptional, IsStart}
use Rattle.os_ast.specs.Trees as tree
use Rattle.os_ast.specs.declared.names.Resolved.{Resolved}
use Rattle.os_code.specs.declared.instr.Instr.TheVariants.{Jump, Turn}
use Rattle.os_code.specs.declared.parts.Parts.{Parts}
use Rattle.lowering_relation.specs.Declarators.{HasStart}
use Rattle.lowering_relation.specs.Statements.{Body, HasLoop, HasRound, HasStmt, HasTest}
use Rattle.lowering_relation.specs.Tasks.{tasks_of}

module _ {code : Parts} {place_of : ℕ → ℕ} (tells : ℕ → Resolved) where
  -- what stands before a loop, and its test
  pub start_stands : (start : tree.StartTree) → IsStart start → (d : Draft) → Becomes (start_code tells start d) code place_of
      → HasStart code tells start (length d.instrs) (length (start_code tells start d).instrs)
  start_stands tree.StartTree.Empty is d becomes = refl
  start_stands (tree.StartTree.Declare ty ds) (leveled.declare are) d becomes = declarators_stand tells ds (heads_given are) d becomes
  start_stands (tree.StartTree.Change c) (leveled.change is) d becomes = change_stands tells c is d becomes

  test_stands : (test : Option tree.ExprTree) → IsOptional IsExpr test → (end : Label) (d : Draft) → Becomes (test_code tells test end d) code place_of
      → HasTest code tells test (place_of end.number) (length d.instrs) (length (test_code tells test end d).instrs)
  test_stands None is end d becomes = refl
  test_stands (Some e) (leveled.present is) end d becomes = condition_stands tells end e is d becomes

module _ (code : Parts) (place_of : ℕ → ℕ) (b : Body) where
  -- the body of a loop, and its step
  round_stands : (step : Option tree.ChangeTree) → IsOptional IsChange step → (a : tree.StmtTree) → Goes code place_of b a
      → (x : Exits) → x.leaves ≡ b.leaves → (again end : Label) (d : Draft) → AreNumbered b.tasks d.spawned (tasks_of a)
      → Becomes (round_code b.tells step again x end (stmt_code b.tells a) d) code place_of
      → HasRound code b.tells (HasStmt code b a (place_of end.number)) step (place_of again.number) (length d.instrs)
      (length (round_code b.tells step again x end (stmt_code b.tells a) d).instrs)
  round_stands None is a goes_a x leaves again end d are becomes = goes_a (in_loop x end again) leaves (Some again) d are becomes
  round_stands (Some c) (leveled.present is) a goes_a x leaves again end d are becomes =
      let step = next_label d in
      let inner = in_loop x end step in
      let d1 = with_label d in
      let da = stmt_code b.tells a inner None d1 in
      let d2 = with_place da step in
      let dc = change_code b.tells c d2 in
      let bc : Becomes dc code place_of = back (keeps_instr (kept dc) (Jump again.number)) becomes in
      let b2 : Becomes d2 code place_of = back (change_kept b.tells c d2) bc in
      let is_open : slice_get da.places step.number ≡ Some None = (stmt_kept b.tells a inner None d1).same step.number (new_is_within d) ∙ new_is_open d in
      let ba : Becomes da code place_of = before_place da step is_open b2 in
      let at : place_of step.number ≡ length da.instrs = placed_here da step is_open b2 in (
        length da.instrs,
        length dc.instrs,
        subst (λ n. HasStmt code b a (place_of end.number) n (length da.instrs) (length d.instrs) (length da.instrs)) at (goes_a inner leaves None d1 are ba),
        change_stands b.tells c is d2 bc,
        (instr_stands dc (Jump again.number) becomes, sym (length-instr dc (Jump again.number))),
      )

  pub loop_stands : (test : Option tree.ExprTree) → IsOptional IsExpr test → (step : Option tree.ChangeTree) → IsOptional IsChange step
      → (a : tree.StmtTree) → Goes code place_of b a
      → (x : Exits) → x.leaves ≡ b.leaves → (end : Label) (d : Draft) → AreNumbered b.tasks d.spawned (tasks_of a)
      → Becomes (loop_code b.tells test step x end (stmt_code b.tells a) d) code place_of
      → HasLoop code b.tells test (HasStmt code b a (place_of end.number)) step (place_of end.number) (length d.instrs)
      (length (loop_code b.tells test step x end (stmt_code b.tells a) d).instrs)
  loop_stands test is_test step is_step a goes_a x leaves end d are becomes =
      let again = next_label d in
      let d1 = with_label d in
      let d2 = with_place d1 again in
      let d3 = with_instr d2 Turn in
      let dt = test_code b.tells test end d3 in
      let dr = round_code b.tells step again x end (stmt_code b.tells a) dt in
      let bt : Becomes dt code place_of = back (round_kept b.tells step again x end {a = stmt_code b.tells a} (stmt_kept b.tells a) dt) becomes in
      let b3 : Becomes d3 code place_of = back (test_kept b.tells test end d3) bt in
      let b2 : Becomes d2 code place_of = back (keeps_instr (kept d2) Turn) b3 in
      let at : place_of again.number ≡ length d.instrs = placed_here d1 again (new_is_open d) b2 in
      let numbered = still_numbered b.tasks (tasks_of a) d dt (test_spawned b.tells test end d3) are in (
        length dt.instrs,
        instr_stands d2 Turn b3,
        subst (λ from. HasTest code b.tells test (place_of end.number) from (length dt.instrs)) (length-instr d2 Turn)
            (test_stands b.tells test is_test end d3 bt),
        subst (λ n. HasRound code b.tells (HasStmt code b a (place_of end.number)) step n (length dt.instrs) (length dr.instrs)) at
            (round_stands step is_step a goes_a x leaves again end dt numbered becomes),
      )
