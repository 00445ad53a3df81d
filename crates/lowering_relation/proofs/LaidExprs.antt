-- The code of an expression leaves one operand more.
use Rattle.std.proofs.Common.{◌≡◌, ℕ, suc, ◌+◌, ◌<◌, ◌≤◌, Bool, [], ◌∷◌, ◌++◌, Some, refl, subst, inl, arith, pos}
use Rattle.std.specs.Int.{w32, cast_signed}
use Rattle.std.specs.Prelude.{⊤}
use Rattle.c_int.specs.Machine.{unary_for}
use Rattle.c_int.specs.declared.operators.Unary.TheVariants as int_unary
use Rattle.cddf_meaning.specs.Operators.{operator_of_one}
use Rattle.cddf_meaning.specs.ExpressionTypes.{type_of_two}
use Rattle.os_ast.specs.Names.{Scope}
use Rattle.os_ast.specs.Notes.Expressions.{count_args, expr_notes, place_notes, args_notes, links_notes}
use Rattle.os_ast.specs.Trees as tree
use Rattle.os_ast.specs.declared.expr.Binary.{Binary}
use Rattle.os_ast.specs.declared.expr.Binary.TheVariants as binary
use Rattle.os_ast.specs.declared.expr.Unary as tree_unary
use Rattle.os_ast.specs.declared.names.Role.TheVariants as role
use Rattle.os_ast.specs.declared.names.What.{What}
use Rattle.os_ast.specs.declared.names.What.TheVariants as what
use Rattle.os_code.specs.Parts.{instr_at}
use Rattle.os_code.specs.declared.instr.Instr.TheVariants as instr
use Rattle.lowering_relation.specs.Expressions.{Stands, operation, type_by, HasUnary, operated, worked_out, HasLink, HasExpr, HasPlace, HasLinks, HasArgs}
use Rattle.lowering_relation.specs.Names.{reading, reading_at, calling}
use Rattle.lowering_relation.proofs.Heights.{height_at}
use Rattle.lowering_relation.proofs.Homes.{Home, tells, Unturned, IsTarget, IsCalled, AllFit}
use Rattle.lowering_relation.proofs.LaidNames.{rises_reading, rises_reading_at, rises_operation}
use Rattle.lowering_relation.proofs.Lays.{Lays, fit_first, fit_rest, nothing, then_lays, free, closed, to_end, to_height, straight, jumping, jumping_zero, turned}

module _ (h : Home) where
  -- A jump forwards to the end of what lies behind it.
  pub ahead : (place end height : ℕ) → place < end → h.first ≤ place → end < h.last → height_at h.code end ≡ height → Unturned h.code end →
      IsTarget h place end height
  ahead place end height lt first last is other = record { low = omega (arith, first, lt); high = last; height = is; lands = inl (lt, other) }

  -- two `!` behind a number, and what follows them
  nots : (line from x : ℕ) → instr_at h.code from ≡ Some (instr.Unary int_unary.Not line) → instr_at h.code (from + 1) ≡ Some (instr.Unary int_unary.Not line) →
      Lays h ⊤ from (suc x) (from + 1 + 1) (suc x)
  nots line from x a b =
      straight h (instr.Unary int_unary.Not line ∷ instr.Unary int_unary.Not line ∷ []) from (from + 1 + 1) (suc x) (suc x) (a, (b, refl))
      ((refl, refl, refl, refl), omega arith, tt, ((refl, refl, refl, refl), omega arith, tt, omega arith))

  module _ (line : ℕ) (u v : Bool) (right : ℕ → ℕ → Type 0) (lays : (x p q : ℕ) → right p q → Lays h ⊤ p x q (suc x)) where
    lays_and : (from to x : ℕ) → HasLink h.code binary.And line u v right from to → Lays h ⊤ from (suc x) to (suc x)
    lays_and from to x s =
        let end = s.0 in
        let first = lays x (from + 1) end s.2 in
        let both = nots line end x s.3.0 s.3.1.0 in
        let last = straight h (instr.Push (pos 0) ∷ []) (end + 1 + 1 + 1) to x (suc x) s.3.1.1.1 ((refl, refl, refl, refl), omega arith, tt, omega arith) in
        let jump : Lays h (⊤ × (to < h.last)) (end + 1 + 1) (suc x) (end + 1 + 1 + 1) x =
        jumping h (end + 1 + 1) to (suc x) x s.3.1.1.0 (omega arith)
        (λ g low high f. ahead (end + 1 + 1) to (suc x) (omega (arith, last.onward)) low g.1 (last.height f) (last.unturned (omega (arith, s.3.1.1.1.1)))) in
        let zero : Lays h (⊤ × (to < h.last)) from (suc x) (from + 1) x =
        jumping_zero h from (end + 1 + 1 + 1) x s.1
        (λ g low high f. ahead from (end + 1 + 1 + 1) x (omega (arith, first.onward)) low (omega (arith, g.1, s.3.1.1.1.1))
        (jump.height (both.height (first.height f))) (jump.unturned (omega arith))) in
        closed h (then_lays h zero (then_lays h (free h first) (then_lays h (free h both) (then_lays h jump (free h last)))))

    lays_or : (from to x : ℕ) → HasLink h.code binary.Or line u v right from to → Lays h ⊤ from (suc x) to (suc x)
    lays_or from to x s =
        let end = s.0 in
        let push = straight h (instr.Push (pos 1) ∷ []) (from + 1) (from + 1 + 1) x (suc x) (s.2.0, refl) ((refl, refl, refl, refl), omega arith, tt, omega arith) in
        let first = lays x (from + 1 + 1 + 1) end s.3 in
        let last = to_end h s.4.1.1 (nots line end x s.4.0 s.4.1.0) in
        let jump : Lays h (⊤ × (to < h.last)) (from + 1 + 1) (suc x) (from + 1 + 1 + 1) x =
        jumping h (from + 1 + 1) to (suc x) x s.2.1.0 (omega arith)
        (λ g low high f. ahead (from + 1 + 1) to (suc x) (omega (arith, first.onward, last.onward)) low g.1 (last.height (first.height f)) (last.unturned (omega (arith, s.4.1.1)))) in
        let zero : Lays h (⊤ × (to < h.last)) from (suc x) (from + 1) x =
        jumping_zero h from (from + 1 + 1 + 1) x s.1
        (λ g low high f. ahead from (from + 1 + 1 + 1) x (omega arith) low (omega (arith, g.1, first.onward, s.4.1.1))
        (jump.height (push.height f)) (jump.unturned (omega arith))) in
        closed h (then_lays h zero (then_lays h (free h push) (then_lays h jump (then_lays h (free h first) (free h last)))))

    lays_operation : (op : Binary) (from to x : ℕ) → (end : ℕ) × right from end × Stands h.code (operation op line u v) end to → Lays h ⊤ from (suc x) to (suc x)
    lays_operation op from to x s =
        then_lays h (lays (suc x) from s.0 s.1) (straight h (operation op line u v) s.0 to (suc (suc x)) (suc x) s.2 (rises_operation h op line u v x))

    lays_link : (op : Binary) (from to x : ℕ) → HasLink h.code op line u v right from to → Lays h ⊤ from (suc x) to (suc x)
    lays_link binary.And from to x s = lays_and from to x s
    lays_link binary.Or from to x s = lays_or from to x s
    lays_link op from to x s = lays_operation op from to x s

  lays_unary : (op : tree_unary.Unary) (line : ℕ) (u : Bool) (e : tree.ExprTree) (has : ℕ → ℕ → Type 0) (from to x : ℕ) →
      ((q : ℕ) → has from q → Lays h ⊤ from x q (suc x)) →
      HasUnary h.code op line u e has from to → Lays h ⊤ from x to (suc x)
  lays_unary op line u e has from to x lays (operated end s is) =
      then_lays h (lays end s) (straight h (instr.Unary (unary_for u (operator_of_one op)) line ∷ []) end (end + 1) (suc x) (suc x) (is, refl) ((refl, refl, refl, refl), omega arith, tt, omega arith))
  lays_unary op line u e has from to x lays (worked_out {v = v} same given is) =
      straight h (instr.Push v ∷ []) from (from + 1) x (suc x) (is, refl) ((refl, refl, refl, refl), omega arith, tt, omega arith)

  unary_some : (op : tree_unary.Unary) (line : ℕ) (u : Bool) (e : tree.ExprTree) (has : ℕ → ℕ → Type 0) (from to : ℕ) → ((q : ℕ) → has from q → from < q) →
      HasUnary h.code op line u e has from to → from < to
  unary_some op line u e has from to some (operated end s is) = omega (arith, some end s)
  unary_some op line u e has from to some (worked_out same given is) = omega arith

  -- what reads a name has an instruction
  reading_some : (w : What) (line from to : ℕ) → Stands h.code (reading w line) from to → from < to
  reading_some (what.Constant v) line from to s = omega (arith, s.1)
  reading_some (what.Function f) line from to s = omega (arith, s.1)
  reading_some (what.Scalar slot) line from to s = omega (arith, s.1)
  reading_some (what.Array first size) line from to s = omega (arith, s.1)
  reading_some (what.Window slot) line from to s = omega (arith, s.1)
  reading_some (what.Stream first count) line from to s = omega (arith, s.1)
  reading_some (what.Element item) line from to s = omega (arith, s.1.1)
  reading_some (what.View item) line from to s = omega (arith, s.1.1)

  lays_call : (w : What) (args from to x : ℕ) → IsCalled h args w → Stands h.code (instr.Turn ∷ calling w ∷ []) from to → Lays h ⊤ from (x + args) to (suc x)
  lays_call w args from to x called s =
      turned h from to (x + args) (suc x) (instr.Call called.callee) (subst (λ v. Stands h.code (instr.Turn ∷ calling v ∷ []) from to) called.is s) refl refl refl
      (omega (arith, called.takes)) (omega (arith, called.takes)) called.suits

  -- a choice between two parts
  lays_choice : (test end from to x : ℕ) → Lays h ⊤ from x test (suc x) → instr_at h.code test ≡ Some (instr.JumpZero (end + 1)) →
      Lays h ⊤ (test + 1) x end (suc x) →
      instr_at h.code end ≡ Some (instr.Jump to) → Lays h ⊤ (end + 1) x to (suc x) → end + 1 < to → Lays h ⊤ from x to (suc x)
  lays_choice test end from to x first is_zero left is_jump right some =
      let jump : Lays h (⊤ × (to < h.last)) end (suc x) (end + 1) x =
      jumping h end to (suc x) x is_jump (omega arith)
      (λ g low high f. ahead end to (suc x) (omega (arith, some)) low g.1 (right.height f) (right.unturned some)) in
      let zero : Lays h (⊤ × (to < h.last)) test (suc x) (test + 1) x =
      jumping_zero h test (end + 1) x is_zero
      (λ g low high f. ahead test (end + 1) x (omega (arith, left.onward)) low (omega (arith, g.1, some)) (jump.height (left.height f)) (jump.unturned (omega arith))) in
      closed h (then_lays h (free h first) (then_lays h zero (then_lays h (free h left) (then_lays h jump (free h right)))))

  -- an expression has at least one instruction
  abbrev pub Value : (from x to : ℕ) → Type 0
  Value from x to = (from < to) × Lays h ⊤ from x to (suc x)

  mutual
    pub expr_lays : (e : tree.ExprTree) (s : Scope) (from to x : ℕ) → AllFit h (expr_notes s e) → HasExpr h.code (tells h) e from to → Value from x to
    expr_lays (tree.Number n) s from to x fit has =
        (omega (arith, has.1), straight h (instr.Push (pos n) ∷ []) from to x (suc x) has ((refl, refl, refl, refl), omega arith, tt, omega arith))
    expr_lays (tree.Wide n) s from to x fit has =
        (omega (arith, has.1), straight h (instr.Push (cast_signed w32 n) ∷ []) from to x (suc x) has ((refl, refl, refl, refl), omega arith, tt, omega arith))
    expr_lays (tree.Place t) s from to x fit has = place_lays t s from to x fit has
    expr_lays (tree.ExprTree.Call f args) s from to x fit has =
        let before = args_lay args s from has.0 x fit.1 has.1 in
        (omega (arith, before.onward, has.2.1.1), then_lays h before (lays_call (tells h f.mark.place).what (count_args args) has.0 to x fit.0 has.2))
    expr_lays (tree.Paren e) s from to x fit has = expr_lays e s from to x fit has
    expr_lays (tree.Unary op m e) s from to x fit has = (
      unary_some op m.line (type_by (tells h) e) e (HasExpr h.code (tells h) e) from to (λ q k. (expr_lays e s from q x fit k).0) has,
      lays_unary op m.line (type_by (tells h) e) e (HasExpr h.code (tells h) e) from to x (λ q k. (expr_lays e s from q x fit k).1) has,
    )
    expr_lays (tree.Chain l first links) s from to x fit has =
        let a = expr_lays first s from has.0 x (fit_first h (expr_notes s first) (links_notes s links) fit) has.1 in
        let b = links_lay links s (type_by (tells h) first) has.0 to x (fit_rest h (expr_notes s first) (links_notes s links) fit) has.2 in
        (omega (arith, a.0, b.onward), then_lays h a.1 b)
    expr_lays (tree.Choice c a b) s from to x fit has =
        let rest = expr_notes s a ++ expr_notes s b in
        let first = expr_notes s c ++ expr_notes s a in
        let fits = fit_first h first (expr_notes s b) fit in
        let v = expr_lays c s from has.0 x (fit_first h (expr_notes s c) (expr_notes s a) fits) has.2 in
        let y = expr_lays a s (has.0 + 1) has.1 x (fit_rest h (expr_notes s c) (expr_notes s a) fits) has.4 in
        let n = expr_lays b s (has.1 + 1) to x (fit_rest h first (expr_notes s b) fit) has.6 in
        (omega (arith, v.0, y.0, n.0), lays_choice has.0 has.1 from to x v.1 has.3 y.1 has.5 n.1 n.0)

    place_lays : (t : tree.TargetTree) (s : Scope) (from to x : ℕ) → AllFit h (place_notes s role.Value t) → HasPlace h.code (tells h) t from to →
        Value from x to
    place_lays (tree.Variable n) s from to x fit has = (
      reading_some (tells h n.mark.place).what n.mark.line from to has,
      straight h (reading (tells h n.mark.place).what n.mark.line) from to x (suc x) has (rises_reading h (tells h n.mark.place).what n.mark.line x fit.0),
    )
    place_lays (tree.Element n m e) s from to x fit has =
        let index = expr_lays e s from has.0 x fit.1 has.1 in (
          omega (arith, index.0, has.2.1),
          then_lays h index.1 (straight h (reading_at (tells h n.mark.place).what m.line ∷ []) has.0 to (suc x) (suc x) has.2 (rises_reading_at h (tells h n.mark.place).what m.line x fit.0)),
        )

    links_lay : (links : tree.Links) (s : Scope) (u : Bool) (from to x : ℕ) → AllFit h (links_notes s links) → HasLinks h.code (tells h) links u from to →
        Lays h ⊤ from (suc x) to (suc x)
    links_lay tree.no_links s u from to x fit has = to_end h has (nothing h from (suc x))
    links_lay (tree.link op m e rest) s u from to x fit has =
        then_lays h
        (lays_link m.line u (type_by (tells h) e) (HasExpr h.code (tells h) e) (λ y p q k. (expr_lays e s p q y (fit_first h (expr_notes s e) (links_notes s rest) fit) k).1) op from has.0 x has.1)
        (links_lay rest s (type_of_two op u (type_by (tells h) e)) has.0 to x (fit_rest h (expr_notes s e) (links_notes s rest) fit) has.2)

    args_lay : (args : tree.Args) (s : Scope) (from to x : ℕ) → AllFit h (args_notes s args) → HasArgs h.code (tells h) args from to →
        Lays h ⊤ from x to (x + count_args args)
    args_lay tree.no_args s from to x fit has = to_end h has (to_height h (omega arith) (nothing h from x))
    args_lay (tree.arg e es) s from to x fit has =
        let first = expr_lays e s from has.0 x (fit_first h (expr_notes s e) (args_notes s es) fit) has.1 in
        to_height h (omega arith) (then_lays h first.1 (args_lay es s has.0 to (suc x) (fit_rest h (expr_notes s e) (args_notes s es) fit) has.2))
