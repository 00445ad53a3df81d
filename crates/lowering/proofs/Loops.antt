-- The code of a `for`, put together.
use Rattle.std.proofs.Common.{◌≡◌, ℕ, Option, Some, None, refl}
use Rattle.lowering_draft.specs.Draft.{next_label, with_instr, with_label, with_place}
use Rattle.lowering_draft.specs.Emission.Changes.{change_code}
use Rattle.lowering_draft.specs.Emission.Declarators.{start_code}
use Rattle.lowering_draft.specs.Emission.Statements.{begin_code, closed, end_of, in_loop, opened, stmt_code, test_code}
use Rattle.lowering_draft.specs.declared.draft.Draft.{Draft}
use Rattle.lowering_draft.specs.declared.draft.Label.{Label}
use Rattle.lowering_draft.specs.declared.exits.Exits.{Exits}
use Rattle.os_ast.specs.Trees as tree
use Rattle.os_ast.specs.declared.names.Resolved.{Resolved}
use Rattle.os_code.specs.declared.instr.Instr.TheVariants.{Jump}

module _ (tells : ℕ → Resolved) (start : tree.StartTree) (test : Option tree.ExprTree) (a : tree.StmtTree) (x : Exits) (next : Option Label) where
  -- without a step
  pub for_made : (d opened_draft begun done : Draft) (end again : Label)
      → end ≡ end_of next d → opened_draft ≡ opened next d
      → again ≡ next_label (start_code tells start opened_draft)
      → begun ≡ begin_code again (test_code tells test end) (with_label (start_code tells start opened_draft))
      → done ≡ stmt_code tells a (in_loop x end again) (Some again) begun
      → closed next end done ≡ stmt_code tells (tree.For start test None a) x next d
  for_made d opened_draft begun done end again is_end is_opened is_again is_begun is_done = rw (is_done, is_begun, is_again, is_opened, is_end) refl

  -- with a step
  pub for_with_step_made : (c : tree.ChangeTree) (d opened_draft begun labelled body done : Draft) (end again step : Label)
      → end ≡ end_of next d → opened_draft ≡ opened next d
      → again ≡ next_label (start_code tells start opened_draft)
      → begun ≡ begin_code again (test_code tells test end) (with_label (start_code tells start opened_draft))
      → step ≡ next_label begun → labelled ≡ with_label begun
      → body ≡ stmt_code tells a (in_loop x end step) None labelled
      → done ≡ with_instr (change_code tells c (with_place body step)) (Jump again.number)
      → closed next end done ≡ stmt_code tells (tree.For start test (Some c) a) x next d
  for_with_step_made c d opened_draft begun labelled body done end again step is_end is_opened is_again is_begun is_step is_labelled is_body is_done =
      rw (is_done, is_body, is_labelled, is_step, is_begun, is_again, is_opened, is_end) refl
