-- The code of an `if` stands for it, by the label of where the code goes on.
use Rattle.std.proofs.Common.{◌≡◌, ◌∙◌, ℕ, ◌+◌, ◌++◌, length, Option, Some, None, slice_get, ap, subst, sym}
use Rattle.lowering_draft.proofs.Becoming.{back, before_place, placed_here}
use Rattle.lowering_draft.proofs.ConditionsStand.{condition_stands}
use Rattle.lowering_draft.proofs.Going.{Goes, StmtAt}
use Rattle.lowering_draft.proofs.GoingOn.{Meets, ends_there, new_is_open, new_is_within}
use Rattle.lowering_draft.proofs.Keeping.{Keeps, then_kept}
use Rattle.lowering_draft.proofs.KeptExpressions.{condition_kept}
use Rattle.lowering_draft.proofs.KeptStatements.{stmt_kept}
use Rattle.lowering_draft.proofs.Numbering.{first_numbered, second_numbered, still_numbered}
use Rattle.lowering_draft.proofs.Spawning.{condition_spawned, stmt_spawned}
use Rattle.lowering_draft.specs.Draft.{Becomes, next_label, with_label, with_place}
use Rattle.lowering_draft.specs.Emission.Conditions.{condition_code}
use Rattle.lowering_draft.specs.Emission.Expressions.{Emission}
use Rattle.lowering_draft.specs.Emission.Statements.{stmt_code}
use Rattle.lowering_draft.specs.Going.{AreNumbered}
use Rattle.lowering_draft.specs.declared.draft.Draft.{Draft}
use Rattle.lowering_draft.specs.declared.draft.Label.{Label}
use Rattle.lowering_draft.specs.declared.exits.Exits.{Exits}
use Rattle.os_ast.specs.Leveled.{IsExpr}
use Rattle.os_ast.specs.Trees as tree
use Rattle.os_code.specs.declared.parts.Parts.{Parts}
use Rattle.lowering_relation.specs.Expressions.{HasCondition}
use Rattle.lowering_relation.specs.Statements.{Body}
use Rattle.lowering_relation.specs.Tasks.{tasks_of}

module _ (b : Body) where
  -- the code between the labels of an `if`
  abbrev pub if_made : tree.ExprTree → tree.StmtTree → Exits → Option Label → Label → Emission
  if_made c a x next end d = stmt_code b.tells a x next (condition_code b.tells c end d)

  abbrev pub if_else_made : tree.ExprTree → (a s : tree.StmtTree) → Exits → Option Label → Label → Emission
  if_else_made c a s x next end d =
      let first = stmt_code b.tells a x (Some end) (condition_code b.tells c (next_label d) (with_label d)) in
      stmt_code b.tells s x next (with_place first (next_label d))

module _ (code : Parts) (place_of : ℕ → ℕ) (b : Body) where
  pub if_stands : (c : tree.ExprTree) → IsExpr c → (a : tree.StmtTree) → Goes code place_of b a
      → (x : Exits) → x.leaves ≡ b.leaves → (next : Option Label) (end : Label) (d : Draft) → AreNumbered b.tasks d.spawned (tasks_of a)
      → Becomes (if_made b c a x next end d) code place_of → Meets code place_of next end (length (if_made b c a x next end d).instrs)
      → StmtAt code place_of b (tree.If c a) x (place_of end.number) (length d.instrs) (length (if_made b c a x next end d).instrs)
  if_stands c is_c a goes_a x leaves next end d are becomes there =
      let dc = condition_code b.tells c end d in
      let da = stmt_code b.tells a x next dc in
      let numbered = still_numbered b.tasks (tasks_of a) d dc (condition_spawned b.tells c end d) are in (
        length dc.instrs,
        condition_stands b.tells end c is_c d (back (stmt_kept b.tells a x next dc) becomes),
        ends_there code place_of (StmtAt code place_of b a x) next end (length dc.instrs) (length da.instrs) there
            (goes_a x leaves next dc numbered becomes),
      )

  pub if_else_stands : (c : tree.ExprTree) → IsExpr c → (a s : tree.StmtTree) → Goes code place_of b a → Goes code place_of b s
      → (x : Exits) → x.leaves ≡ b.leaves → (next : Option Label) (end : Label) (d : Draft) → AreNumbered b.tasks d.spawned (tasks_of a ++ tasks_of s)
      → Becomes (if_else_made b c a s x next end d) code place_of → Meets code place_of next end (length (if_else_made b c a s x next end d).instrs)
      → StmtAt code place_of b (tree.IfElse c a s) x (place_of end.number) (length d.instrs) (length (if_else_made b c a s x next end d).instrs)
  if_else_stands c is_c a s goes_a goes_s x leaves next end d are becomes there =
      let otherwise = next_label d in
      let d1 = with_label d in
      let dc = condition_code b.tells c otherwise d1 in
      let da = stmt_code b.tells a x (Some end) dc in
      let d2 = with_place da otherwise in
      let ds = stmt_code b.tells s x next d2 in
      let b2 : Becomes d2 code place_of = back (stmt_kept b.tells s x next d2) becomes in
      let ka : Keeps d1 da = then_kept (condition_kept b.tells c otherwise d1) (stmt_kept b.tells a x (Some end) dc) in
      let is_open : slice_get da.places otherwise.number ≡ Some None = ka.same otherwise.number (new_is_within d) ∙ new_is_open d in
      let ba : Becomes da code place_of = before_place da otherwise is_open b2 in
      let bc : Becomes dc code place_of = back (stmt_kept b.tells a x (Some end) dc) ba in
      let at : place_of otherwise.number ≡ length da.instrs = placed_here da otherwise is_open b2 in
      let in_condition : dc.spawned ≡ d.spawned = condition_spawned b.tells c otherwise d1 in
      let in_first : d2.spawned ≡ d.spawned + length (tasks_of a) =
      stmt_spawned b.tells a x (Some end) dc ∙ ap (λ n. n + length (tasks_of a)) in_condition in
      let first = still_numbered b.tasks (tasks_of a) d dc in_condition (first_numbered b.tasks d.spawned (tasks_of a) (tasks_of s) are) in
      let second : AreNumbered b.tasks d2.spawned (tasks_of s) =
      subst (λ n. AreNumbered b.tasks n (tasks_of s)) (sym in_first) (second_numbered b.tasks d.spawned (tasks_of a) (tasks_of s) are) in (
        length dc.instrs,
        length da.instrs,
        subst (λ n. HasCondition code b.tells c n (length d.instrs) (length dc.instrs)) at (condition_stands b.tells otherwise c is_c d1 bc),
        goes_a x leaves (Some end) dc first ba,
        ends_there code place_of (StmtAt code place_of b s x) next end (length da.instrs) (length ds.instrs) there (goes_s x leaves next d2 second becomes),
      )
