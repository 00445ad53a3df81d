-- Declarations: their code keeps the labels that are there, and stands for them.
use Rattle.std.proofs.Common.{◌≡◌, ℕ, Bool, true, false, List, [], ◌∷◌, length, Option, Some, None, subst, sym, refl}
use Rattle.std.specs.Prelude.{pos}
use Rattle.lowering_draft.proofs.Becoming.{back, instr_stands}
use Rattle.lowering_draft.proofs.ExpressionsStand.{expr_stands, length-instr, stands_instr, stands_plain}
use Rattle.lowering_draft.proofs.Keeping.{KeepsLabels, kept, keeps_instr, keeps_instrs}
use Rattle.lowering_draft.proofs.KeptExpressions.{and_then_kept, change_kept, expr_kept}
use Rattle.lowering_draft.specs.Draft.{Becomes, with_instr, with_instrs}
use Rattle.lowering_draft.specs.Emission.Declarators.{cleared_code, declarators_code, declared_code, scalar_code, start_code, window_code}
use Rattle.lowering_draft.specs.Emission.Expressions.{expr_code}
use Rattle.lowering_draft.specs.Given.{HasLeveledExprs}
use Rattle.lowering_draft.specs.declared.draft.Draft.{Draft}
use Rattle.os_ast.specs.FreeNames.{expr_names}
use Rattle.os_ast.specs.Leveled as leveled
use Rattle.os_ast.specs.Leveled.{AreAll, IsDeclarator, IsExpr, IsIndex, IsOptional, IsStart}
use Rattle.os_ast.specs.ClauseMembers.{is_in}
use Rattle.os_ast.specs.Trees as tree
use Rattle.os_ast.specs.declared.names.Resolved.{Resolved}
use Rattle.os_ast.specs.declared.names.What.{What}
use Rattle.os_ast.specs.declared.names.What.TheVariants as what
use Rattle.os_code.specs.declared.instr.Instr.TheVariants.{Push, Store, Window, Zero}
use Rattle.os_code.specs.declared.parts.Parts.{Parts}
use Rattle.lowering_relation.specs.Declarators.{HasDeclarators, HasDeclared, HasFirst, HasScalar, HasWindow, cleared, named_elsewhere}

module _ (tells : ℕ → Resolved) where
  cleared_kept : (named : Bool) (slot : ℕ) → KeepsLabels (cleared_code named slot)
  cleared_kept true slot d = keeps_instrs (kept d) (Push (pos 0) ∷ Store slot ∷ [])
  cleared_kept false slot d = kept d

  scalar_kept : (id slot : ℕ) (first : Option tree.ExprTree) → KeepsLabels (scalar_code tells id slot first)
  scalar_kept id slot None d = keeps_instrs (kept d) (Push (pos 0) ∷ Store slot ∷ [])
  scalar_kept id slot (Some e) d = keeps_instr (and_then_kept (cleared_kept (is_in id (expr_names e)) slot d) (expr_kept tells e)) (Store slot)

  window_kept : (slot : ℕ) (size : Option tree.IndexTree) → KeepsLabels (window_code tells slot size)
  window_kept slot None d = kept d
  window_kept slot (Some i) d = keeps_instr (expr_kept tells i.value d) (Window slot i.mark.line)

  declared_kept : (w : What) (x : tree.DeclaratorTree) → KeepsLabels (declared_code tells w x)
  declared_kept (what.Scalar slot) x d = scalar_kept x.name.id slot x.first d
  declared_kept (what.Array first size) x d = keeps_instr (kept d) (Zero first size)
  declared_kept (what.Window slot) x d = window_kept slot x.size d
  declared_kept (what.Constant v) x d = kept d
  declared_kept (what.Function n) x d = kept d
  declared_kept (what.Stream first count) x d = kept d
  declared_kept (what.Element item) x d = kept d
  declared_kept (what.View item) x d = kept d

  pub declarators_kept : (ds : List tree.DeclaratorTree) → KeepsLabels (declarators_code tells ds)
  declarators_kept [] d = kept d
  declarators_kept (x ∷ ds) d = and_then_kept (declared_kept (tells x.name.mark.place).what x d) (declarators_kept ds)

  pub start_kept : (start : tree.StartTree) → KeepsLabels (start_code tells start)
  start_kept tree.StartTree.Empty d = kept d
  start_kept (tree.StartTree.Declare ty ds) d = declarators_kept ds d
  start_kept (tree.StartTree.Change c) d = change_kept tells c d

module _ {code : Parts} {place_of : ℕ → ℕ} (tells : ℕ → Resolved) where
  first_stands : (named : Bool) (id slot : ℕ) (e : tree.ExprTree) → IsExpr e → is_in id (expr_names e) ≡ named → (d : Draft)
      → Becomes (with_instr (expr_code tells e (cleared_code named slot d)) (Store slot)) code place_of
      → HasFirst code tells id slot e (length d.instrs) (length (with_instr (expr_code tells e (cleared_code named slot d)) (Store slot)).instrs)
  first_stands true id slot e is named d b =
      let zeros = with_instrs d (Push (pos 0) ∷ Store slot ∷ []) in
      let made = expr_code tells e zeros in
      let bm : Becomes made code place_of = back (keeps_instr (kept made) (Store slot)) b in
      subst (HasFirst code tells id slot e (length d.instrs)) (sym (length-instr made (Store slot)))
      (cleared (length zeros.instrs) (length made.instrs) (stands_plain d (Push (pos 0) ∷ Store slot ∷ []) refl (back (expr_kept tells e zeros) bm))
      (expr_stands tells e is zeros bm) (instr_stands made (Store slot) b))
  first_stands false id slot e is named d b =
      let made = expr_code tells e d in
      subst (HasFirst code tells id slot e (length d.instrs)) (sym (length-instr made (Store slot)))
      (named_elsewhere (length made.instrs) named (expr_stands tells e is d (back (keeps_instr (kept made) (Store slot)) b)) (instr_stands made (Store slot) b))

  scalar_stands : (id slot : ℕ) (first : Option tree.ExprTree) → ((e : tree.ExprTree) → first ≡ Some e → IsExpr e) → (d : Draft)
      → Becomes (scalar_code tells id slot first d) code place_of → HasScalar code tells id slot first (length d.instrs) (length (scalar_code tells id slot first d).instrs)
  scalar_stands id slot None is d b = stands_plain d (Push (pos 0) ∷ Store slot ∷ []) refl b
  scalar_stands id slot (Some e) is d b = first_stands (is_in id (expr_names e)) id slot e (is e refl) refl d b

  window_stands : (slot : ℕ) (size : Option tree.IndexTree) → ((i : tree.IndexTree) → size ≡ Some i → IsExpr i.value) → (d : Draft)
      → Becomes (window_code tells slot size d) code place_of → HasWindow code tells slot size (length d.instrs) (length (window_code tells slot size d).instrs)
  window_stands slot None is d b = refl
  window_stands slot (Some i) is d b =
      let made = expr_code tells i.value d in (
        length made.instrs,
        expr_stands tells i.value (is i refl) d (back (keeps_instr (kept made) (Window slot i.mark.line)) b),
        stands_instr made (Window slot i.mark.line) refl b,
      )

  declared_stands : (w : What) (x : tree.DeclaratorTree) → HasLeveledExprs x → (d : Draft) → Becomes (declared_code tells w x d) code place_of
      → HasDeclared code tells w x (length d.instrs) (length (declared_code tells w x d).instrs)
  declared_stands (what.Scalar slot) x is d b = scalar_stands x.name.id slot x.first is.first d b
  declared_stands (what.Array first size) x is d b = stands_instr d (Zero first size) refl b
  declared_stands (what.Window slot) x is d b = window_stands slot x.size is.size d b
  declared_stands (what.Constant v) x is d b = refl
  declared_stands (what.Function n) x is d b = refl
  declared_stands (what.Stream first count) x is d b = refl
  declared_stands (what.Element item) x is d b = refl
  declared_stands (what.View item) x is d b = refl

  pub declarators_stand : (ds : List tree.DeclaratorTree) → AreAll HasLeveledExprs ds → (d : Draft) → Becomes (declarators_code tells ds d) code place_of
      → HasDeclarators code tells ds (length d.instrs) (length (declarators_code tells ds d).instrs)
  declarators_stand [] are d b = refl
  declarators_stand (x ∷ ds) (leveled.cons is are) d b =
      let made = declared_code tells (tells x.name.mark.place).what x d in (
        length made.instrs,
        declared_stands (tells x.name.mark.place).what x is d (back (declarators_kept tells ds made) b),
        declarators_stand ds are made b,
      )
