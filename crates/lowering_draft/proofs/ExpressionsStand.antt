-- The code that a draft of an expression becomes stands for it.
use Rattle.std.proofs.Common.{◌≡◌, ◌≢◌, ◌∙◌, ◌^◌, Bool, false, ℕ, ◌+◌, ◌<◌, List, [], ◌∷◌, ◌++◌, map, length, length-append, Option, Some, None, Ok, Err, Result, slice_get, ap, subst, sym, refl, arith}
use Rattle.std.proofs.Math.Nat.{min-eq_left}
use Rattle.std.proofs.lemmas.Option.{none-some, slice_get_within}
use Rattle.std.specs.Int.{w32, cast_signed}
use Rattle.std.specs.Prelude.{ℤ, pos}
use Rattle.std.specs.Result.{result_ok}
use Rattle.c_int.specs.Machine.{unary_for}
use Rattle.c_int.specs.Operators.{unary_value}
use Rattle.c_int.specs.declared.operators.Unary.TheVariants as int_unary
use Rattle.c_int.specs.declared.trap.OperatorTrap.{OperatorTrap}
use Rattle.cddf_meaning.specs.Answers.{Answer, at_line, over}
use Rattle.cddf_meaning.specs.Operators.{operator_of_one, unary_answer}
use Rattle.cddf_meaning.specs.ExpressionTypes.{type_of_two}
use Rattle.lowering_draft.proofs.Becoming.{back, before_place, instr_stands, placed_here, slice_get-last}
use Rattle.lowering_draft.proofs.Keeping.{Keeps, KeepsLabels, kept, keeps_instr, keeps_instrs, then_kept}
use Rattle.lowering_draft.proofs.KeptExpressions.{args_kept, expr_kept, links_kept}
use Rattle.lowering_draft.proofs.Lists.{slice_get-front, slice_get-set_other}
use Rattle.lowering_draft.specs.Draft.{Becomes, next_label, with_instr, with_instrs, with_label, with_place, with_places}
use Rattle.lowering_draft.specs.Emission.Expressions.{Emission, args_code, choice_code, expr_code, links_code, literal, place_code, with_link, with_unary, worked_out}
use Rattle.lowering_draft.specs.declared.draft.Draft.{Draft}
use Rattle.os_ast.specs.Leveled as leveled
use Rattle.os_ast.specs.Leveled.{IsExpr, AreLinks, IsTarget, AreArgs}
use Rattle.os_ast.specs.Trees as tree
use Rattle.os_ast.specs.declared.expr.Binary.{Binary}
use Rattle.os_ast.specs.declared.expr.Binary.TheVariants as binary
use Rattle.os_ast.specs.declared.expr.Level.{Level}
use Rattle.os_ast.specs.declared.expr.Unary.{Unary}
use Rattle.os_ast.specs.declared.names.Resolved.{Resolved}
use Rattle.os_ast.specs.declared.names.What.{What}
use Rattle.os_ast.specs.declared.names.What.TheVariants as what
use Rattle.os_code.specs.Parts.{instr_at}
use Rattle.os_code.specs.declared.instr.Instr.{Instr}
use Rattle.os_code.specs.declared.instr.Instr.TheVariants as instr
use Rattle.os_code.specs.declared.instr.Instr.TheVariants.{Drop, Jump, JumpZero, Push, Turn}
use Rattle.os_code.specs.declared.parts.Parts.{Parts}
use Rattle.lowering_relation.specs.Expressions.{HasArgs, HasExpr, HasLink, HasLinks, HasPlace, HasUnary, Stands, operation, operated, type_by, worked_out as worked_out_code}
use Rattle.lowering_relation.specs.Names.{calling, reading, reading_at}

-- one instruction more
pub length-instr : (d : Draft) (i : Instr) → length (with_instr d i).instrs ≡ length d.instrs + 1
length-instr d i = length-append d.instrs (i ∷ [])

-- labels don't count
pub first_is_open : (d : Draft) → slice_get (with_label (with_label d)).places (next_label d).number ≡ Some None
first_is_open d =
    slice_get-front (d.places ++ None ∷ []) (None ∷ []) (length d.places) (omega (arith, length-append d.places (None ∷ []))) ∙ slice_get-last d.places None

pub second_is_open : (d : Draft) → slice_get (with_label (with_label d)).places (next_label (with_label d)).number ≡ Some None
second_is_open d = slice_get-last (d.places ++ None ∷ []) None

-- instructions without labels
module _ (place_of : ℕ → ℕ) where
  pub plain-reading : (w : What) (line : ℕ) → map (with_places place_of) (reading w line) ≡ reading w line
  plain-reading (what.Constant v) line = refl
  plain-reading (what.Function n) line = refl
  plain-reading (what.Scalar slot) line = refl
  plain-reading (what.Array first size) line = refl
  plain-reading (what.Window slot) line = refl
  plain-reading (what.Stream first count) line = refl
  plain-reading (what.Element item) line = refl
  plain-reading (what.View item) line = refl

  pub plain-reading_at : (w : What) (line : ℕ) → with_places place_of (reading_at w line) ≡ reading_at w line
  plain-reading_at (what.Constant v) line = refl
  plain-reading_at (what.Function n) line = refl
  plain-reading_at (what.Scalar slot) line = refl
  plain-reading_at (what.Array first size) line = refl
  plain-reading_at (what.Window slot) line = refl
  plain-reading_at (what.Stream first count) line = refl
  plain-reading_at (what.Element item) line = refl
  plain-reading_at (what.View item) line = refl

  plain-calling : (w : What) → with_places place_of (calling w) ≡ calling w
  plain-calling (what.Constant v) = refl
  plain-calling (what.Function n) = refl
  plain-calling (what.Scalar slot) = refl
  plain-calling (what.Array first size) = refl
  plain-calling (what.Window slot) = refl
  plain-calling (what.Stream first count) = refl
  plain-calling (what.Element item) = refl
  plain-calling (what.View item) = refl

  pub plain-operation : (op : Binary) (line : ℕ) (u v : Bool) → map (with_places place_of) (operation op line u v) ≡ operation op line u v
  plain-operation binary.Or line u v = refl
  plain-operation binary.And line u v = refl
  plain-operation binary.BitOr line u v = refl
  plain-operation binary.BitXor line u v = refl
  plain-operation binary.BitAnd line u v = refl
  plain-operation binary.Equal line u v = refl
  plain-operation binary.Unequal line u v = refl
  plain-operation binary.Less line u v = refl
  plain-operation binary.LessEqual line u v = refl
  plain-operation binary.Greater line u v = refl
  plain-operation binary.GreaterEqual line u v = refl
  plain-operation binary.ShiftLeft line u v = refl
  plain-operation binary.ShiftRight line u v = refl
  plain-operation binary.Add line u v = refl
  plain-operation binary.Subtract line u v = refl
  plain-operation binary.Multiply line u v = refl
  plain-operation binary.Divide line u v = refl
  plain-operation binary.Remainder line u v = refl

-- what an operator gives of a number
number_small : (n : ℕ) → n < 2 ^ 31 → literal n ≡ pos n
number_small n small = ap pos (min-eq_left (omega (arith, small)))

abbrev ok_of : Option ℤ → Answer ℤ
ok_of (Some v) = Ok v
ok_of None = over

given : (line : ℕ) (r : Result ℤ OperatorTrap) (v : ℤ) → result_ok r ≡ Some v → at_line line r ≡ Ok v
given line (Ok w) v is = ap ok_of is
given line (Err trap) v is = absurd (none-some v is)

-- two lists of instructions, one behind the other
pub stands-append : (code : Parts) (is js : List Instr) (from mid to : ℕ) → Stands code is from mid → Stands code js mid to → Stands code (is ++ js) from to
stands-append code [] js from mid to first second = subst (λ n. Stands code js n to) (sym first) second
stands-append code (i ∷ is) js from mid to first second = (first.0, stands-append code is js (from + 1) mid to first.1 second)

-- A part of code: it keeps labels, and what it becomes has something.
pub record IsPart (code : Parts) (place_of : ℕ → ℕ) (f : Emission) (has : (from to : ℕ) → Type 0) : Type 0 where
  pub keeps : KeepsLabels f
  pub stands : (d : Draft) → Becomes (f d) code place_of → has (length d.instrs) (length (f d).instrs)

module _ {code : Parts} {place_of : ℕ → ℕ} where
  pub stands_instr : (d : Draft) (i : Instr) → with_places place_of i ≡ i → Becomes (with_instr d i) code place_of →
      Stands code (i ∷ []) (length d.instrs) (length (with_instr d i).instrs)
  stands_instr d i plain b = (instr_stands d i b ∙ ap Some plain, sym (length-instr d i))

  pub stands_instrs : (d : Draft) (is : List Instr) → Becomes (with_instrs d is) code place_of →
      Stands code (map (with_places place_of) is) (length d.instrs) (length (with_instrs d is).instrs)
  stands_instrs d [] b = refl
  stands_instrs d (i ∷ is) b = (
    instr_stands d i (back (keeps_instrs (kept (with_instr d i)) is) b),
    subst (λ from. Stands code (map (with_places place_of) is) from (length (with_instrs (with_instr d i) is).instrs)) (length-instr d i)
        (stands_instrs (with_instr d i) is b),
  )

  -- instructions without labels
  pub stands_plain : (d : Draft) (is : List Instr) → map (with_places place_of) is ≡ is → Becomes (with_instrs d is) code place_of →
      Stands code is (length d.instrs) (length (with_instrs d is).instrs)
  stands_plain d is plain b = subst (λ js. Stands code js (length d.instrs) (length (with_instrs d is).instrs)) plain (stands_instrs d is b)

  choice_stands : {c a b : Emission} {has_c has_a has_b : (from to : ℕ) → Type 0} → IsPart code place_of c has_c → IsPart code place_of a has_a → IsPart code place_of b has_b → (d : Draft)
      → Becomes (choice_code (next_label d) (next_label (with_label d)) c a b (with_label (with_label d))) code place_of
      → (test end : ℕ) × has_c (length d.instrs) test × (instr_at code test ≡ Some (JumpZero (end + 1))) × has_a (test + 1) end
      × (instr_at code end ≡ Some (Jump (length (choice_code (next_label d) (next_label (with_label d)) c a b (with_label (with_label d))).instrs)))
      × has_b (end + 1) (length (choice_code (next_label d) (next_label (with_label d)) c a b (with_label (with_label d))).instrs)
  choice_stands {c} {a} {b} {has_c} {has_a} {has_b} pc pa pb d becomes =
      let otherwise = next_label d in
      let done = next_label (with_label d) in
      let d2 = with_label (with_label d) in
      let dc = c d2 in
      let d3 = with_instr dc (JumpZero otherwise.number) in
      let da = a d3 in
      let d4 = with_instr da (Jump done.number) in
      let d5 = with_place d4 otherwise in
      let db = b d5 in
      let k4 : Keeps d2 d4 = keeps_instr (then_kept (keeps_instr (pc.keeps d2) (JumpZero otherwise.number)) (pa.keeps d3)) (Jump done.number) in
      let within_first : length d.places < length d2.places = omega (arith, length-append d.places (None ∷ []), length-append (d.places ++ None ∷ []) (None ∷ [])) in
      let within_second : length (with_label d).places < length d2.places = omega (arith, length-append (d.places ++ None ∷ []) (None ∷ [])) in
      let apart : otherwise.number ≢ done.number = λ same. absurd (omega (arith, same, length-append d.places (None ∷ []))) in
      let open_first : slice_get d4.places otherwise.number ≡ Some None = k4.same otherwise.number within_first ∙ first_is_open d in
      let open_second : slice_get d5.places done.number ≡ Some None =
      slice_get-set_other d4.places otherwise.number done.number (Some (length d4.instrs)) apart ∙ k4.same done.number within_second ∙ second_is_open d in
      let within_five : length (with_label d).places < length d5.places = omega (arith, slice_get_within d5.places done.number None open_second) in
      let open_done : slice_get db.places done.number ≡ Some None = (pb.keeps d5).same done.number within_five ∙ open_second in
      let bb : Becomes db code place_of = before_place db done open_done becomes in
      let b5 : Becomes d5 code place_of = back (pb.keeps d5) bb in
      let b4 : Becomes d4 code place_of = before_place d4 otherwise open_first b5 in
      let ba : Becomes da code place_of = back (keeps_instr (kept da) (Jump done.number)) b4 in
      let b3 : Becomes d3 code place_of = back (pa.keeps d3) ba in
      let bc : Becomes dc code place_of = back (keeps_instr (kept dc) (JumpZero otherwise.number)) b3 in (
        length dc.instrs,
        length da.instrs,
        pc.stands d2 bc,
        instr_stands dc (JumpZero otherwise.number) b3 ∙ ap (λ at. Some (JumpZero at)) (placed_here d4 otherwise open_first b5 ∙ length-instr da (Jump done.number)),
        subst (λ from. has_a from (length da.instrs)) (length-instr dc (JumpZero otherwise.number)) (pa.stands d3 ba),
        instr_stands da (Jump done.number) b4 ∙ ap (λ at. Some (Jump at)) (placed_here db done open_done becomes),
        subst (λ from. has_b from (length db.instrs)) (length-instr da (Jump done.number)) (pb.stands d5 bb),
      )

  and_stands : {f : Emission} {has : (from to : ℕ) → Type 0} → (line : ℕ) (u v : Bool) → IsPart code place_of f has → (d : Draft)
      → Becomes (with_link binary.And line u v f d) code place_of → HasLink code binary.And line u v has (length d.instrs) (length (with_link binary.And line u v f d).instrs)
  and_stands {f} {has} line u v pf d becomes =
      let zero = next_label d in
      let done = next_label (with_label d) in
      let d2 = with_label (with_label d) in
      let d3 = with_instr d2 (JumpZero zero.number) in
      let dr = f d3 in
      let js = instr.Unary int_unary.Not line ∷ instr.Unary int_unary.Not line ∷ Jump done.number ∷ [] in
      let d4 = with_instrs dr js in
      let d5 = with_place d4 zero in
      let d6 = with_instr d5 (Push (pos 0)) in
      let k4 : Keeps d2 d4 = keeps_instrs (then_kept (keeps_instr (kept d2) (JumpZero zero.number)) (pf.keeps d3)) js in
      let within_first : length d.places < length d2.places = omega (arith, length-append d.places (None ∷ []), length-append (d.places ++ None ∷ []) (None ∷ [])) in
      let within_second : length (with_label d).places < length d2.places = omega (arith, length-append (d.places ++ None ∷ []) (None ∷ [])) in
      let apart : zero.number ≢ done.number = λ same. absurd (omega (arith, same, length-append d.places (None ∷ []))) in
      let open_zero : slice_get d4.places zero.number ≡ Some None = k4.same zero.number within_first ∙ first_is_open d in
      let open_done : slice_get d6.places done.number ≡ Some None =
      slice_get-set_other d4.places zero.number done.number (Some (length d4.instrs)) apart ∙ k4.same done.number within_second ∙ second_is_open d in
      let b6 : Becomes d6 code place_of = before_place d6 done open_done becomes in
      let b5 : Becomes d5 code place_of = back (keeps_instr (kept d5) (Push (pos 0))) b6 in
      let b4 : Becomes d4 code place_of = before_place d4 zero open_zero b5 in
      let br : Becomes dr code place_of = back (keeps_instrs (kept dr) js) b4 in
      let b3 : Becomes d3 code place_of = back (pf.keeps d3) br in
      let three : length d4.instrs ≡ length dr.instrs + 1 + 1 + 1 =
      length-instr (with_instr (with_instr dr (instr.Unary int_unary.Not line)) (instr.Unary int_unary.Not line)) (Jump done.number)
      ∙ ap (λ n. n + 1) (length-instr (with_instr dr (instr.Unary int_unary.Not line)) (instr.Unary int_unary.Not line))
      ∙ ap (λ n. n + 1 + 1) (length-instr dr (instr.Unary int_unary.Not line)) in
      let jumped : Stands code (instr.Unary int_unary.Not line ∷ instr.Unary int_unary.Not line ∷ Jump (length d6.instrs) ∷ []) (length dr.instrs) (length d4.instrs) =
      subst (λ at. Stands code (instr.Unary int_unary.Not line ∷ instr.Unary int_unary.Not line ∷ Jump at ∷ []) (length dr.instrs) (length d4.instrs))
      (placed_here d6 done open_done becomes) (stands_instrs dr js b4) in (
        length dr.instrs,
        instr_stands d2 (JumpZero zero.number) b3 ∙ ap (λ at. Some (JumpZero at)) (placed_here d4 zero open_zero b5 ∙ three),
        subst (λ from. has from (length dr.instrs)) (length-instr d2 (JumpZero zero.number)) (pf.stands d3 br),
        stands-append code (instr.Unary int_unary.Not line ∷ instr.Unary int_unary.Not line ∷ Jump (length d6.instrs) ∷ []) (Push (pos 0) ∷ [])
            (length dr.instrs) (length d4.instrs) (length d6.instrs) jumped (stands_instr d5 (Push (pos 0)) refl b6),
      )

  or_stands : {f : Emission} {has : (from to : ℕ) → Type 0} → (line : ℕ) (u v : Bool) → IsPart code place_of f has → (d : Draft)
      → Becomes (with_link binary.Or line u v f d) code place_of → HasLink code binary.Or line u v has (length d.instrs) (length (with_link binary.Or line u v f d).instrs)
  or_stands {f} {has} line u v pf d becomes =
      let zero = next_label d in
      let done = next_label (with_label d) in
      let d2 = with_label (with_label d) in
      let js = JumpZero zero.number ∷ Push (pos 1) ∷ Jump done.number ∷ [] in
      let d3 = with_instrs d2 js in
      let d4 = with_place d3 zero in
      let dr = f d4 in
      let truth = instr.Unary int_unary.Not line ∷ instr.Unary int_unary.Not line ∷ [] in
      let d5 = with_instrs dr truth in
      let k3 : Keeps d2 d3 = keeps_instrs (kept d2) js in
      let within_first : length d.places < length d2.places = omega (arith, length-append d.places (None ∷ []), length-append (d.places ++ None ∷ []) (None ∷ [])) in
      let within_second : length (with_label d).places < length d2.places = omega (arith, length-append (d.places ++ None ∷ []) (None ∷ [])) in
      let apart : zero.number ≢ done.number = λ same. absurd (omega (arith, same, length-append d.places (None ∷ []))) in
      let open_zero : slice_get d3.places zero.number ≡ Some None = k3.same zero.number within_first ∙ first_is_open d in
      let open_four : slice_get d4.places done.number ≡ Some None =
      slice_get-set_other d3.places zero.number done.number (Some (length d3.instrs)) apart ∙ k3.same done.number within_second ∙ second_is_open d in
      let k5 : Keeps d4 d5 = keeps_instrs (pf.keeps d4) truth in
      let open_done : slice_get d5.places done.number ≡ Some None =
      k5.same done.number (slice_get_within d4.places done.number None open_four) ∙ open_four in
      let b5 : Becomes d5 code place_of = before_place d5 done open_done becomes in
      let br : Becomes dr code place_of = back (keeps_instrs (kept dr) truth) b5 in
      let b4 : Becomes d4 code place_of = back (pf.keeps d4) br in
      let b3 : Becomes d3 code place_of = before_place d3 zero open_zero b4 in
      let three : length d3.instrs ≡ length d2.instrs + 1 + 1 + 1 =
      length-instr (with_instr (with_instr d2 (JumpZero zero.number)) (Push (pos 1))) (Jump done.number)
      ∙ ap (λ n. n + 1) (length-instr (with_instr d2 (JumpZero zero.number)) (Push (pos 1)))
      ∙ ap (λ n. n + 1 + 1) (length-instr d2 (JumpZero zero.number)) in
      let begun : Stands code (JumpZero (length d3.instrs) ∷ Push (pos 1) ∷ Jump (length d5.instrs) ∷ []) (length d2.instrs) (length d3.instrs) =
      subst (λ at. Stands code (JumpZero at ∷ Push (pos 1) ∷ Jump (length d5.instrs) ∷ []) (length d2.instrs) (length d3.instrs)) (placed_here d3 zero open_zero b4)
      (subst (λ at. Stands code (JumpZero (place_of zero.number) ∷ Push (pos 1) ∷ Jump at ∷ []) (length d2.instrs) (length d3.instrs)) (placed_here d5 done open_done becomes)
      (stands_instrs d2 js b3)) in (
        length dr.instrs,
        begun.0 ∙ ap (λ at. Some (JumpZero at)) three,
        (begun.1.0, (begun.1.1.0, refl)),
        subst (λ from. has from (length dr.instrs)) three (pf.stands d4 br),
        stands_plain dr truth refl b5,
      )

  operated_link : {f : Emission} {has : (from to : ℕ) → Type 0} → (op : Binary) (line : ℕ) (u v : Bool) → IsPart code place_of f has → (d : Draft)
      → Becomes (with_instrs (f d) (operation op line u v)) code place_of
      → (end : ℕ) × has (length d.instrs) end × Stands code (operation op line u v) end (length (with_instrs (f d) (operation op line u v)).instrs)
  operated_link {f} op line u v pf d b = (
    length (f d).instrs,
    pf.stands d (back (keeps_instrs (kept (f d)) (operation op line u v)) b),
    stands_plain (f d) (operation op line u v) (plain-operation place_of op line u v) b,
  )

  link_stands : {f : Emission} {has : (from to : ℕ) → Type 0} → (op : Binary) (line : ℕ) (u v : Bool) → IsPart code place_of f has → (d : Draft)
      → Becomes (with_link op line u v f d) code place_of → HasLink code op line u v has (length d.instrs) (length (with_link op line u v f d).instrs)
  link_stands binary.And line u v pf d b = and_stands line u v pf d b
  link_stands binary.Or line u v pf d b = or_stands line u v pf d b
  link_stands binary.BitOr line u v pf d b = operated_link binary.BitOr line u v pf d b
  link_stands binary.BitXor line u v pf d b = operated_link binary.BitXor line u v pf d b
  link_stands binary.BitAnd line u v pf d b = operated_link binary.BitAnd line u v pf d b
  link_stands binary.Equal line u v pf d b = operated_link binary.Equal line u v pf d b
  link_stands binary.Unequal line u v pf d b = operated_link binary.Unequal line u v pf d b
  link_stands binary.Less line u v pf d b = operated_link binary.Less line u v pf d b
  link_stands binary.LessEqual line u v pf d b = operated_link binary.LessEqual line u v pf d b
  link_stands binary.Greater line u v pf d b = operated_link binary.Greater line u v pf d b
  link_stands binary.GreaterEqual line u v pf d b = operated_link binary.GreaterEqual line u v pf d b
  link_stands binary.ShiftLeft line u v pf d b = operated_link binary.ShiftLeft line u v pf d b
  link_stands binary.ShiftRight line u v pf d b = operated_link binary.ShiftRight line u v pf d b
  link_stands binary.Add line u v pf d b = operated_link binary.Add line u v pf d b
  link_stands binary.Subtract line u v pf d b = operated_link binary.Subtract line u v pf d b
  link_stands binary.Multiply line u v pf d b = operated_link binary.Multiply line u v pf d b
  link_stands binary.Divide line u v pf d b = operated_link binary.Divide line u v pf d b
  link_stands binary.Remainder line u v pf d b = operated_link binary.Remainder line u v pf d b

  operated_unary : (op : Unary) (line : ℕ) (unsigned : Bool) (e : tree.ExprTree) → {f : Emission} {has : (from to : ℕ) → Type 0} → IsPart code place_of f has → (d : Draft)
      → Becomes (with_unary None op line unsigned f d) code place_of → HasUnary code op line unsigned e has (length d.instrs) (length (with_unary None op line unsigned f d).instrs)
  operated_unary op line unsigned e {f} {has} pf d b =
      let i = instr.Unary (unary_for unsigned (operator_of_one op)) line in
      subst (HasUnary code op line unsigned e has (length d.instrs)) (sym (length-instr (f d) i))
      (operated (length (f d).instrs) (pf.stands d (back (keeps_instr (kept (f d)) i) b)) (instr_stands (f d) i b))

  number_unary : (op : Unary) (line n : ℕ) → n < 2 ^ 31 → (w : Option ℤ) → result_ok (unary_value (operator_of_one op) (literal n)) ≡ w
      → (has : (from to : ℕ) → Type 0) → {f : Emission} → IsPart code place_of f has → (d : Draft)
      → Becomes (with_unary w op line false f d) code place_of → HasUnary code op line false (tree.Number n) has (length d.instrs) (length (with_unary w op line false f d).instrs)
  number_unary op line n small (Some v) is has {f} pf d b =
      let gives : unary_answer op line false (pos n) ≡ Ok v =
      given line (unary_value (operator_of_one op) (pos n)) v (ap (λ a. result_ok (unary_value (operator_of_one op) a)) (sym (number_small n small)) ∙ is) in
      subst (HasUnary code op line false (tree.Number n) has (length d.instrs)) (sym (length-instr d (Push v))) (worked_out_code refl gives (instr_stands d (Push v) b))
  number_unary op line n small None is has {f} pf d b = operated_unary op line false (tree.Number n) pf d b

module _ {code : Parts} {place_of : ℕ → ℕ} (tells : ℕ → Resolved) where
  -- An operator of a number may be worked out, that of anything else isn't.
  unary_stands : (op : Unary) (line : ℕ) (e : tree.ExprTree) → IsExpr e → IsPart code place_of (expr_code tells e) (HasExpr code tells e) → (d : Draft)
      → Becomes (with_unary (worked_out op e) op line (type_by tells e) (expr_code tells e) d) code place_of
      → HasUnary code op line (type_by tells e) e (HasExpr code tells e) (length d.instrs)
      (length (with_unary (worked_out op e) op line (type_by tells e) (expr_code tells e) d).instrs)
  unary_stands op line (tree.Number n) (leveled.number small) part d b =
      number_unary op line n small (worked_out op (tree.Number n)) refl (HasExpr code tells (tree.Number n)) part d b
  unary_stands op line (tree.Wide n) is part d b = operated_unary op line (type_by tells (tree.Wide n)) (tree.Wide n) part d b
  unary_stands op line (tree.Place t) is part d b = operated_unary op line (type_by tells (tree.Place t)) (tree.Place t) part d b
  unary_stands op line (tree.ExprTree.Call f args) is part d b = operated_unary op line (type_by tells (tree.ExprTree.Call f args)) (tree.ExprTree.Call f args) part d b
  unary_stands op line (tree.Paren e) is part d b = operated_unary op line (type_by tells (tree.Paren e)) (tree.Paren e) part d b
  unary_stands op line (tree.Unary o m e) is part d b = operated_unary op line (type_by tells (tree.Unary o m e)) (tree.Unary o m e) part d b
  unary_stands op line (tree.Chain l first links) is part d b = operated_unary op line (type_by tells (tree.Chain l first links)) (tree.Chain l first links) part d b
  unary_stands op line (tree.Choice c x y) is part d b = operated_unary op line (type_by tells (tree.Choice c x y)) (tree.Choice c x y) part d b

  mutual
    pub expr_stands : (e : tree.ExprTree) → IsExpr e → (d : Draft) → Becomes (expr_code tells e d) code place_of →
        HasExpr code tells e (length d.instrs) (length (expr_code tells e d).instrs)
    expr_stands (tree.Number n) (leveled.number small) d b =
        subst (λ v. Stands code (Push v ∷ []) (length d.instrs) (length (with_instr d (Push (literal n))).instrs)) (number_small n small)
        (stands_instr d (Push (literal n)) refl b)
    expr_stands (tree.Wide n) is d b = stands_instr d (Push (cast_signed w32 n)) refl b
    expr_stands (tree.Place t) (leveled.place is) d b = place_stands t is d b
    expr_stands (tree.ExprTree.Call f args) (leveled.call are) d b =
        let made = args_code tells args d in
        let is = Turn ∷ calling (tells f.mark.place).what ∷ [] in (
          length made.instrs,
          args_stand args are d (back (keeps_instrs (kept made) is) b),
          stands_plain made is (ap (λ i. Turn ∷ i ∷ []) (plain-calling place_of (tells f.mark.place).what)) b,
        )
    expr_stands (tree.Paren e) (leveled.paren is) d b = expr_stands e is d b
    expr_stands (tree.Unary op m e) (leveled.unary is high) d b = unary_stands op m.line e is (record { keeps = expr_kept tells e; stands = expr_stands e is }) d b
    expr_stands (tree.Chain l first (tree.link op m e rest)) (leveled.chain is low are) d b =
        let made = expr_code tells first d in (
          length made.instrs,
          expr_stands first is d (back (links_kept tells (tree.link op m e rest) (type_by tells first) made) b),
          links_stand l (tree.link op m e rest) are (type_by tells first) made b,
        )
    expr_stands (tree.Chain l first tree.no_links) is d b = elim is [ ]
    expr_stands (tree.Choice c x y) (leveled.choice is_c low is_x is_y) d b =
        choice_stands {has_c = HasExpr code tells c} {has_a = HasExpr code tells x} {has_b = HasExpr code tells y} (record { keeps = expr_kept tells c; stands = expr_stands c is_c }) (record { keeps = expr_kept tells x; stands = expr_stands x is_x }) (record { keeps = expr_kept tells y; stands = expr_stands y is_y }) d b

    place_stands : (t : tree.TargetTree) → IsTarget t → (d : Draft) → Becomes (place_code tells t d) code place_of →
        HasPlace code tells t (length d.instrs) (length (place_code tells t d).instrs)
    place_stands (tree.Variable n) leveled.variable d b =
        stands_plain d (reading (tells n.mark.place).what n.mark.line) (plain-reading place_of (tells n.mark.place).what n.mark.line) b
    place_stands (tree.Element n m e) (leveled.element is) d b =
        let made = expr_code tells e d in
        let i = reading_at (tells n.mark.place).what m.line in (
          length made.instrs,
          expr_stands e is d (back (keeps_instr (kept made) i) b),
          stands_instr made i (plain-reading_at place_of (tells n.mark.place).what m.line) b,
        )

    links_stand : (l : Level) (ls : tree.Links) → AreLinks l ls → (u : Bool) (d : Draft) → Becomes (links_code tells ls u d) code place_of →
        HasLinks code tells ls u (length d.instrs) (length (links_code tells ls u d).instrs)
    links_stand l tree.no_links leveled.no_links u d b = refl
    links_stand l (tree.link op m e rest) (leveled.link same is low are) u d b =
        let v = type_by tells e in
        let made = with_link op m.line u v (expr_code tells e) d in (
          length made.instrs,
          link_stands {has = HasExpr code tells e} op m.line u v (record { keeps = expr_kept tells e; stands = expr_stands e is }) d (back (links_kept tells rest (type_of_two op u v) made) b),
          links_stand l rest are (type_of_two op u v) made b,
        )

    args_stand : (es : tree.Args) → AreArgs es → (d : Draft) → Becomes (args_code tells es d) code place_of →
        HasArgs code tells es (length d.instrs) (length (args_code tells es d).instrs)
    args_stand tree.no_args leveled.no_args d b = refl
    args_stand (tree.arg e es) (leveled.arg is are) d b =
        let made = expr_code tells e d in
        (length made.instrs, expr_stands e is d (back (args_kept tells es made) b), args_stand es are made b)

  pub expr_part : (e : tree.ExprTree) → IsExpr e → IsPart code place_of (expr_code tells e) (HasExpr code tells e)
  expr_part e is = record { keeps = expr_kept tells e; stands = expr_stands e is }
