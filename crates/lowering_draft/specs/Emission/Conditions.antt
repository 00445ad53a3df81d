-- The code of conditions.
use Rattle.std.specs.Prelude.{ℕ, suc}
use Rattle.lowering_draft.specs.Draft.{with_instr}
use Rattle.lowering_draft.specs.Emission.Expressions.{Emission, expr_code}
use Rattle.lowering_draft.specs.declared.draft.Label.{Label}
use Rattle.os_ast.specs.Trees as tree
use Rattle.os_ast.specs.declared.expr.Level.TheVariants as level
use Rattle.os_ast.specs.declared.names.Resolved.{Resolved}
use Rattle.os_code.specs.declared.instr.Instr.TheVariants.{JumpZero}

abbrev mutual
  -- Nothing tests a number that isn't 0, and the operands of `&&` are tested one by one.
  pub condition_code : (ℕ → Resolved) → tree.ExprTree → (fails : Label) → Emission
  condition_code tells (tree.Number (suc n)) fails draft = draft
  condition_code tells (tree.Paren e) fails draft = condition_code tells e fails draft
  condition_code tells (tree.Chain level.And first links) fails draft =
      conditions_code tells links fails (condition_code tells first fails draft)
  condition_code tells e fails draft = with_instr (expr_code tells e draft) (JumpZero fails.number)

  pub conditions_code : (ℕ → Resolved) → tree.Links → (fails : Label) → Emission
  conditions_code tells tree.no_links fails draft = draft
  conditions_code tells (tree.link op m e rest) fails draft = conditions_code tells rest fails (condition_code tells e fails draft)
