-- The code of a statement without statements in it stands for it.
use Rattle.std.proofs.Common.{◌≡◌, ◌∙◌, ℕ, List, [], ◌∷◌, length, length-append, Some, ap, subst, sym, refl, arith}
use Rattle.lowering_draft.proofs.Becoming.{back, slice_get-last}
use Rattle.lowering_draft.proofs.DeclaratorsStand.{declarators_stand}
use Rattle.lowering_draft.proofs.ExpressionsStand.{expr_stands, stands_instr}
use Rattle.lowering_draft.proofs.Givens.{clauses_given}
use Rattle.lowering_draft.proofs.Going.{Goes, StmtAt}
use Rattle.lowering_draft.proofs.GoingOn.{jump_stands, still_stands}
use Rattle.lowering_draft.proofs.Keeping.{kept, keeps_instr, keeps_spawn}
use Rattle.lowering_draft.proofs.Spawning.{items_spawned}
use Rattle.lowering_draft.proofs.TasksStand.{items_stand, tick_stands}
use Rattle.lowering_draft.specs.Draft.{Becomes, with_instr, with_places, with_spawn}
use Rattle.lowering_draft.specs.Emission.Declarators.{declarators_code}
use Rattle.lowering_draft.specs.Emission.Expressions.{expr_code}
use Rattle.lowering_draft.specs.Emission.Tasks.{items_code, tick_code}
use Rattle.lowering_draft.specs.Given.{HasLeveledExprs}
use Rattle.lowering_draft.specs.Going.{IsLeave, ends, returns}
use Rattle.lowering_draft.specs.declared.draft.Draft.{Draft}
use Rattle.os_ast.specs.Leveled as leveled
use Rattle.os_ast.specs.Leveled.{AreAll, AreArgs, AreClauses, IsExpr, IsTarget}
use Rattle.os_ast.specs.ClauseMembers.{members}
use Rattle.os_ast.specs.Trees as tree
use Rattle.os_ast.specs.declared.expr.Mark.{Mark}
use Rattle.os_ast.specs.declared.expr.Name.{Name}
use Rattle.os_ast.specs.declared.ty.Ty.{Ty}
use Rattle.os_code.specs.declared.instr.Instr.{Instr}
use Rattle.os_code.specs.declared.instr.Instr.TheVariants.{Drop, Spawn}
use Rattle.os_code.specs.declared.parts.Parts.{Parts}
use Rattle.lowering_relation.specs.Expressions.{Stands}
use Rattle.lowering_relation.specs.Statements.{Body}
use Rattle.lowering_relation.specs.Tasks.{task_index}

plain-leave : (place_of : ℕ → ℕ) {i : Instr} → IsLeave i → with_places place_of i ≡ i
plain-leave place_of returns = refl
plain-leave place_of ends = refl

-- a `Spawn` stands where it was emitted
spawn_stands : {code : Parts} {place_of : ℕ → ℕ} (d : Draft) → Becomes (with_spawn d) code place_of
    → Stands code (Spawn d.spawned ∷ []) (length d.instrs) (length (with_spawn d).instrs)
spawn_stands d b = (
  b.instrs (length d.instrs) (Spawn d.spawned) (slice_get-last d.instrs (Spawn d.spawned)),
  sym (length-append d.instrs (Spawn d.spawned ∷ [])),
)

module _ (code : Parts) (place_of : ℕ → ℕ) (b : Body) where
  pub declare_stands : (ty : Ty) (ds : List tree.DeclaratorTree) → AreAll HasLeveledExprs ds → Goes code place_of b (tree.StmtTree.Declare ty ds)
  declare_stands ty ds given x leaves next d are becomes =
      jump_stands code place_of (StmtAt code place_of b (tree.StmtTree.Declare ty ds) x) (length d.instrs) next (declarators_code b.tells ds d)
      (λ made. (declarators_stand b.tells ds given d made, refl)) becomes

  pub call_stands : (f : Name) (args : tree.Args) → AreArgs args → Goes code place_of b (tree.StmtTree.Call f args)
  call_stands f args are_args x leaves next d are becomes =
      let called = expr_code b.tells (tree.ExprTree.Call f args) d in
      jump_stands code place_of (StmtAt code place_of b (tree.StmtTree.Call f args) x) (length d.instrs) next (with_instr called Drop)
      (λ made. (
        length called.instrs,
        expr_stands b.tells (tree.ExprTree.Call f args) (leveled.call are_args) d (back (keeps_instr (kept called) Drop) made),
        stands_instr called Drop refl made,
        refl,
      )) becomes

  pub return_stands : IsLeave b.leaves → (m : Mark) (e : tree.ExprTree) → IsExpr e → Goes code place_of b (tree.Return m e)
  return_stands leave m e is x leaves next d are becomes =
      let value = expr_code b.tells e d in
      let left = with_instr value x.leaves in
      let plain : with_places place_of x.leaves ≡ x.leaves = plain-leave place_of (subst IsLeave (sym leaves) leave) in
      let leaving : Stands code (b.leaves ∷ []) (length value.instrs) (length left.instrs) =
      subst (λ i. Stands code (i ∷ []) (length value.instrs) (length left.instrs)) leaves (stands_instr value x.leaves plain becomes) in
      still_stands code place_of (StmtAt code place_of b (tree.Return m e) x) (length d.instrs) (length left.instrs) next
      (λ n. (length value.instrs, expr_stands b.tells e is d (back (keeps_instr (kept value) x.leaves) becomes), leaving))

  pub task_stands : (m : Mark) (cs : List tree.ClauseTree) → AreClauses cs → (a : tree.StmtTree) → Goes code place_of b (tree.Task m cs a)
  task_stands m cs is a x leaves next d are becomes =
      let made = items_code b.tells (members cs) d in
      let number : task_index b.tasks m ≡ Some made.spawned =
      are 0 (record { mark = m; members = members cs; body = a }) refl ∙ ap Some (omega (arith, items_spawned b.tells (members cs) d)) in
      jump_stands code place_of (StmtAt code place_of b (tree.Task m cs a) x) (length d.instrs) next (with_spawn made)
      (λ spawned. (
        made.spawned,
        length made.instrs,
        number,
        items_stand b.tells (members cs) (clauses_given is) d (back (keeps_spawn (kept made)) spawned),
        spawn_stands made spawned,
        refl,
      )) becomes

  pub tick_goes : (m : Mark) (t : tree.TargetTree) → IsTarget t → (arrow : Mark) (e : tree.ExprTree) → IsExpr e
      → Goes code place_of b (tree.Tick m t arrow e)
  tick_goes m t is_t arrow e is_e x leaves next d are becomes =
      jump_stands code place_of (StmtAt code place_of b (tree.Tick m t arrow e) x) (length d.instrs) next (tick_code b.tells t arrow.line e d)
      (λ made. let stand = tick_stands b.tells t is_t arrow.line e is_e d made in (stand.0, stand.1, stand.2, stand.3, stand.4, refl)) becomes
