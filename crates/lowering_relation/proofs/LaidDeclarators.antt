-- The code of declarations leaves no operands.
use Rattle.std.proofs.Common.{◌≡◌, ℕ, ◌+◌, ◌≤◌, ◌&&◌, Bool, true, false, not, if◌then◌else◌, List, [], ◌∷◌, Option, Some, None, refl, subst, arith, pos}
use Rattle.std.specs.Prelude.{⊤}
use Rattle.os_ast.specs.Meanings.{what_declared}
use Rattle.os_ast.specs.Names.{Scope, typed}
use Rattle.os_ast.specs.Notes.Declarators.{scalar_entity, sized_form, form_entity, size_of, is_window, sized_notes, size_notes, declared_entity, after_declarator, declarator_notes, declarators_notes, start_notes}
use Rattle.os_ast.specs.Notes.Expressions.{expr_notes, value_notes}
use Rattle.os_ast.specs.Trees as tree
use Rattle.os_ast.specs.declared.expr.Name.{Name}
use Rattle.os_ast.specs.declared.names.Owner.{Owner}
use Rattle.os_ast.specs.declared.names.Owner.TheVariants as owner
use Rattle.os_ast.specs.declared.names.What.TheVariants as what
use Rattle.os_code.specs.declared.instr.Instr.TheVariants as instr
use Rattle.lowering_relation.specs.Declarators.{HasFirst, cleared, named_elsewhere, HasScalar, HasDeclared, HasDeclarators, HasStart}
use Rattle.lowering_relation.specs.Expressions.{Stands}
use Rattle.lowering_relation.proofs.Homes.{Home, tells, Fits, AllFit}
use Rattle.lowering_relation.proofs.LaidChanges.{change_lays}
use Rattle.lowering_relation.proofs.LaidExprs.{expr_lays}
use Rattle.lowering_relation.proofs.Lays.{Lays, fit_first, fit_rest, nothing, then_lays, to_end, straight}

scalar_means : (o : Owner) (slot : ℕ) → what_declared (scalar_entity o slot) ≡ what.Scalar slot
scalar_means owner.OfMain slot = refl
scalar_means owner.OfFunction slot = refl
scalar_means owner.OfTask slot = refl

module _ (h : Home) where
  clearing : (slot from to : ℕ) → slot + 1 ≤ h.slots → Stands h.code (instr.Push (pos 0) ∷ instr.Store slot ∷ []) from to → Lays h ⊤ from 0 to 0
  clearing slot from to fits has =
      straight h (instr.Push (pos 0) ∷ instr.Store slot ∷ []) from to 0 0 has ((refl, refl, refl, refl), omega arith, tt, ((refl, refl, refl, refl), omega arith, fits, omega arith))

  first_lays : (id slot : ℕ) (e : tree.ExprTree) (s : Scope) (from to : ℕ) → slot + 1 ≤ h.slots → AllFit h (expr_notes s e) →
      HasFirst h.code (tells h) id slot e from to → Lays h ⊤ from 0 to 0
  first_lays id slot e s from to fits fit (cleared zeros end zero has is) =
      then_lays h (clearing slot from zeros fits zero)
      (then_lays h (expr_lays h e s zeros end 0 fit has).1 (straight h (instr.Store slot ∷ []) end (end + 1) 1 0 (is, refl) ((refl, refl, refl, refl), omega arith, fits, omega arith)))
  first_lays id slot e s from to fits fit (named_elsewhere end elsewhere has is) =
      then_lays h (expr_lays h e s from end 0 fit has).1 (straight h (instr.Store slot ∷ []) end (end + 1) 1 0 (is, refl) ((refl, refl, refl, refl), omega arith, fits, omega arith))

  scalar_lays : (id slot : ℕ) (e : Option tree.ExprTree) (s : Scope) (from to : ℕ) → slot + 1 ≤ h.slots → AllFit h (value_notes s e) →
      HasScalar h.code (tells h) id slot e from to → Lays h ⊤ from 0 to 0
  scalar_lays id slot None s from to fits fit has = clearing slot from to fits has
  scalar_lays id slot (Some e) s from to fits fit has = first_lays id slot e s from to fits fit has

  -- a declarator by its parts
  module _ (s : Scope) (n : Name) (first : Option tree.ExprTree) (from to : ℕ) where
    abbrev by_parts : Bool → Option tree.IndexTree → tree.DeclaratorTree
    by_parts stream size = record { name = n; size = size; stream = stream; first = first }

    window_lays : (o : Owner) (i : tree.IndexTree) (size : Option ℕ) → Fits h (what_declared (form_entity s (sized_form o size))) →
        AllFit h (if is_window o && not false then expr_notes s i.value else size_notes s i.value) →
        HasDeclared h.code (tells h) (what_declared (form_entity s (sized_form o size))) (by_parts false (Some i)) from to → Lays h ⊤ from 0 to 0
    window_lays owner.OfMain i size fits fit has =
        then_lays h (expr_lays h i.value s from has.0 0 fit has.1).1
        (straight h (instr.Window s.slots i.mark.line ∷ []) has.0 to 1 0 has.2 ((refl, refl, refl, refl), omega arith, fits, omega arith))
    window_lays owner.OfFunction i size fits fit has =
        straight h (instr.Zero s.slots _ ∷ []) from to 0 0 has ((refl, refl, refl, refl), omega arith, fits, omega arith)
    window_lays owner.OfTask i size fits fit has =
        straight h (instr.Zero s.slots _ ∷ []) from to 0 0 has ((refl, refl, refl, refl), omega arith, fits, omega arith)

    declared_lays : (stream : Bool) (size : Option tree.IndexTree) → Fits h (what_declared (declared_entity s (by_parts stream size))) →
        AllFit h (sized_notes s stream size) →
        AllFit h (value_notes (after_declarator s (by_parts stream size)) first) →
        HasDeclared h.code (tells h) (what_declared (declared_entity s (by_parts stream size))) (by_parts stream size) from to → Lays h ⊤ from 0 to 0
    declared_lays true None fits sized valued has = to_end h has (nothing h from 0)
    declared_lays true (Some i) fits sized valued has = to_end h has (nothing h from 0)
    declared_lays false None fits sized valued has =
        scalar_lays n.id s.slots first (after_declarator s (by_parts false None)) from to (subst (Fits h) (scalar_means s.owner s.slots) fits) valued
        (subst (λ w. HasDeclared h.code (tells h) w (by_parts false None) from to) (scalar_means s.owner s.slots) has)
    declared_lays false (Some i) fits sized valued has = window_lays s.owner i (size_of s i.value) fits sized has

  declarator_lays : (d : tree.DeclaratorTree) (s : Scope) (from to : ℕ) → AllFit h (declarator_notes s d) →
      HasDeclared h.code (tells h) (tells h d.name.mark.place).what d from to → Lays h ⊤ from 0 to 0
  declarator_lays d s from to fit has =
      declared_lays s d.name d.first from to d.stream d.size fit.0.1
      (fit_first h (sized_notes s d.stream d.size) (value_notes (after_declarator s d) d.first) fit.1)
      (fit_rest h (sized_notes s d.stream d.size) (value_notes (after_declarator s d) d.first) fit.1)
      (subst (λ w. HasDeclared h.code (tells h) w d from to) fit.0.0 has)

  pub declarators_lay : (ds : List tree.DeclaratorTree) (s : Scope) (from to : ℕ) → AllFit h (declarators_notes s ds) →
      HasDeclarators h.code (tells h) ds from to → Lays h ⊤ from 0 to 0
  declarators_lay [] s from to fit has = to_end h has (nothing h from 0)
  declarators_lay (d ∷ ds) s from to fit has =
      then_lays h (declarator_lays d s from has.0 (fit_first h (declarator_notes s d) (declarators_notes (after_declarator s d) ds) fit) has.1)
      (declarators_lay ds (after_declarator s d) has.0 to (fit_rest h (declarator_notes s d) (declarators_notes (after_declarator s d) ds) fit) has.2)

  pub start_lays : (t : tree.StartTree) (s : Scope) (from to : ℕ) → AllFit h (start_notes s t) → HasStart h.code (tells h) t from to → Lays h ⊤ from 0 to 0
  start_lays tree.StartTree.Empty s from to fit has = to_end h has (nothing h from 0)
  start_lays (tree.StartTree.Declare ty ds) s from to fit has = declarators_lay ds (typed ty s) from to fit has
  start_lays (tree.StartTree.Change c) s from to fit has = change_lays h s fit has
