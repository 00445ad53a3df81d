-- The code of a change leaves as many operands as were there.
use Rattle.std.proofs.Common.{ℕ, suc, ◌+◌, Bool, true, false, [], ◌∷◌, ◌++◌, refl, subst, arith, pos}
use Rattle.std.specs.Prelude.{⊤}
use Rattle.cddf_meaning.specs.Operators.{step_operator}
use Rattle.os_ast.specs.Names.{Scope}
use Rattle.os_ast.specs.Notes.Expressions.{expr_notes, place_notes, change_notes}
use Rattle.os_ast.specs.Trees as tree
use Rattle.os_ast.specs.declared.expr.Binary.{Binary}
use Rattle.os_ast.specs.declared.names.Role.TheVariants as role
use Rattle.os_ast.specs.declared.stmt.Assign.{Assign}
use Rattle.os_ast.specs.declared.stmt.Assign.TheVariants as assign_of
use Rattle.os_code.specs.declared.instr.Instr.TheVariants as instr
use Rattle.lowering_relation.specs.Changes.{HasChanged, HasAssigned, HasStepped, target_by, HasChange, set, set_unchecked, after, before, needs_old}
use Rattle.lowering_relation.specs.Expressions.{operation, type_by}
use Rattle.lowering_relation.specs.Names.{aiming, fetching, fetching_at, storing, storing_at}
use Rattle.lowering_relation.proofs.Homes.{Home, tells, AllFit}
use Rattle.lowering_relation.proofs.LaidExprs.{expr_lays}
use Rattle.lowering_relation.proofs.LaidNames.{fetched, aimed, rises_aimed, rises_fetching_at, rises_storing, rises_storing_at, rises_operation}
use Rattle.lowering_relation.proofs.Lays.{Lays, Rises, fit_first, fit_rest, then_lays, to_end, straight}

module _ (h : Home) where
  changed_lays : (old : Bool) (t : tree.TargetTree) (right : ℕ → ℕ → Type 0) (s : Scope) (from to : ℕ) → AllFit h (place_notes s role.Changed t) →
      ((x a b : ℕ) → right a b → Lays h ⊤ a (fetched old x) b (suc x)) → HasChanged h.code (tells h) old t right from to → Lays h ⊤ from 0 to 0
  changed_lays old (tree.Variable n) right s from to fit lays has =
      let w = (tells h n.mark.place).what in
      then_lays h (straight h (aiming w ++ fetching old w n.mark.line) from has.0 0 (fetched old (aimed w 0)) has.2 (rises_aimed h old w n.mark.line 0 fit.0.0))
      (then_lays h (lays (aimed w 0) has.0 has.1 has.3) (straight h (storing w n.mark.line ∷ []) has.1 to (suc (aimed w 0)) 0 has.4 (rises_storing h w n.mark.line 0 fit.0.0 fit.0.1)))
  changed_lays old (tree.Element n m e) right s from to fit lays has =
      let w = (tells h n.mark.place).what in
      then_lays h (expr_lays h e s from has.0 0 fit.1 has.3).1
      (then_lays h (straight h (fetching_at old w m.line) has.0 has.1 1 (fetched old 1) has.4 (rises_fetching_at h old w m.line 0 fit.0.0))
      (then_lays h (lays 1 has.1 has.2 has.5) (straight h (storing_at w m.line ∷ []) has.2 to 2 0 has.6 (rises_storing_at h w m.line 0 fit.0.0 fit.0.1))))

  assigned_lays : (a : Assign) (line : ℕ) (u : Bool) (e : tree.ExprTree) (s : Scope) → AllFit h (expr_notes s e) → (x from to : ℕ) →
      HasAssigned h.code (tells h) a line u e from to →
      Lays h ⊤ from (fetched (needs_old a) x) to (suc x)
  assigned_lays assign_of.Plain line u e s fit x from to has = to_end h has.2 (expr_lays h e s from has.0 x fit has.1).1
  assigned_lays (assign_of.With op) line u e s fit x from to has =
      then_lays h (expr_lays h e s from has.0 (suc x) fit has.1).1 (straight h (operation op line u (type_by (tells h) e)) has.0 to (suc (suc x)) (suc x) has.2 (rises_operation h op line u (type_by (tells h) e) x))

  stepped_lays : (op : Binary) (line : ℕ) (u : Bool) (x from to : ℕ) → HasStepped h.code op line u from to → Lays h ⊤ from (suc x) to (suc x)
  stepped_lays op line u x from to has =
      straight h (instr.Push (pos 1) ∷ operation op line u false) from to (suc x) (suc x) has
      ((refl, refl, refl, refl), omega arith, tt, subst (λ n. Rises h (operation op line u false) n (suc x)) (omega arith) (rises_operation h op line u false x))

  pub change_lays : {c : tree.ChangeTree} {from to : ℕ} (s : Scope) → AllFit h (change_notes s c) → HasChange h.code (tells h) c from to → Lays h ⊤ from 0 to 0
  change_lays {from = from} {to = to} s fit (set {t = t} {a = a} {m = m} {e = e} has) =
      changed_lays (needs_old a) t (HasAssigned h.code (tells h) a m.line (target_by (tells h) t) e) s from to (fit_first h (place_notes s role.Changed t) (expr_notes s e) fit)
      (assigned_lays a m.line (target_by (tells h) t) e s (fit_rest h (place_notes s role.Changed t) (expr_notes s e) fit)) has
  change_lays {from = from} s fit (set_unchecked {n = n} {open_mark = open_mark} {i = i} {e = e} mid end quiet index value is) =
      let w = (tells h n.mark.place).what in
      then_lays h (expr_lays h i s from mid 0 (fit_first h (expr_notes s i) (expr_notes s e) fit.1) index).1
      (then_lays h (expr_lays h e s mid end 1 (fit_rest h (expr_notes s i) (expr_notes s e) fit.1) value).1
      (straight h (storing_at w open_mark.line ∷ []) end (end + 1) 2 0 (is, refl) (rises_storing_at h w open_mark.line 0 fit.0.0 fit.0.1)))
  change_lays {from = from} {to = to} s fit (after {t = t} {p = p} {m = m} has) =
      changed_lays true t (HasStepped h.code (step_operator p) m.line (target_by (tells h) t)) s from to fit (λ x a b k. stepped_lays (step_operator p) m.line (target_by (tells h) t) x a b k) has
  change_lays {from = from} {to = to} s fit (before {t = t} {p = p} {m = m} has) =
      changed_lays true t (HasStepped h.code (step_operator p) m.line (target_by (tells h) t)) s from to fit (λ x a b k. stepped_lays (step_operator p) m.line (target_by (tells h) t) x a b k) has
