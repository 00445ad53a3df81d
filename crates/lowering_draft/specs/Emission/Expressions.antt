-- The code of expressions: a draft with it, by the draft before.
use Rattle.std.specs.Prelude.{ℕ, min, Bool, [], ◌∷◌, Option, Some, None, ℤ, pos}
use Rattle.std.specs.Int.{w32, cast_signed}
use Rattle.std.specs.Result.{result_ok}
use Rattle.c_int.specs.Machine.{unary_for}
use Rattle.c_int.specs.Operators.{unary_value}
use Rattle.c_int.specs.declared.operators.Unary.TheVariants as int_unary
use Rattle.cddf_meaning.specs.Operators.{operator_of_one}
use Rattle.cddf_meaning.specs.ExpressionTypes.{type_of_two}
use Rattle.lowering_draft.specs.Draft.{next_label, with_instr, with_instrs, with_label, with_place}
use Rattle.lowering_draft.specs.declared.draft.Draft.{Draft}
use Rattle.lowering_draft.specs.declared.draft.Label.{Label}
use Rattle.os_ast.specs.Trees as tree
use Rattle.os_ast.specs.declared.expr.Binary.TheVariants as binary
use Rattle.os_ast.specs.declared.expr.Binary.{Binary}
use Rattle.os_ast.specs.declared.expr.Unary.{Unary as Operator}
use Rattle.os_ast.specs.declared.names.Resolved.{Resolved}
use Rattle.os_code.specs.declared.instr.Instr.TheVariants as instr
use Rattle.os_code.specs.declared.instr.Instr.TheVariants.{Push, Jump, JumpZero, Turn}
use Rattle.lowering_relation.specs.Expressions.{operation, type_by}
use Rattle.lowering_relation.specs.Names.{calling, reading, reading_at}

-- what adds code to a draft
abbrev pub Emission : Type 0
Emission = Draft → Draft

-- The number of a token is at most 2,147,483,647.
abbrev pub literal : ℕ → ℤ
literal n = pos (min n 2147483647)

-- what an operator gives of a number, which is an `int`, where it gives one
abbrev pub worked_out : Operator → tree.ExprTree → Option ℤ
worked_out op (tree.Number n) = result_ok (unary_value (operator_of_one op) (literal n))
worked_out op _ = None

-- an operator with an operand of this type
abbrev pub with_unary : Option ℤ → Operator → (line : ℕ) → (unsigned : Bool) → Emission → Emission
with_unary (Some v) op line unsigned operand draft = with_instr draft (Push v)
with_unary None op line unsigned operand draft = with_instr (operand draft) (instr.Unary (unary_for unsigned (operator_of_one op)) line)

abbrev pub and_code : (zero done : Label) → (line : ℕ) → Emission → Emission
and_code zero done line right draft =
    with_place
    (with_instr
    (with_place
    (with_instrs (right (with_instr draft (JumpZero zero.number)))
    (instr.Unary int_unary.Not line ∷ instr.Unary int_unary.Not line ∷ Jump done.number ∷ []))
    zero)
    (Push (pos 0)))
    done

abbrev pub or_code : (zero done : Label) → (line : ℕ) → Emission → Emission
or_code zero done line right draft =
    with_place
    (with_instrs
    (right
    (with_place (with_instrs draft (JumpZero zero.number ∷ Push (pos 1) ∷ Jump done.number ∷ [])) zero))
    (instr.Unary int_unary.Not line ∷ instr.Unary int_unary.Not line ∷ []))
    done

-- an operator between operands of these types
abbrev pub with_link : Binary → (line : ℕ) → (u v : Bool) → Emission → Emission
with_link binary.And line u v right draft = and_code (next_label draft) (next_label (with_label draft)) line right (with_label (with_label draft))
with_link binary.Or line u v right draft = or_code (next_label draft) (next_label (with_label draft)) line right (with_label (with_label draft))
with_link op line u v right draft = with_instrs (right draft) (operation op line u v)

abbrev pub choice_code : (otherwise done : Label) → (condition first second : Emission) → Emission
choice_code otherwise done condition first second draft =
    with_place
    (second
    (with_place (with_instr (first (with_instr (condition draft) (JumpZero otherwise.number))) (Jump done.number)) otherwise))
    done

abbrev mutual
  pub expr_code : (ℕ → Resolved) → tree.ExprTree → Emission
  expr_code tells (tree.Number n) draft = with_instr draft (Push (literal n))
  expr_code tells (tree.Wide n) draft = with_instr draft (Push (cast_signed w32 n))
  expr_code tells (tree.Place t) draft = place_code tells t draft
  expr_code tells (tree.ExprTree.Call f args) draft =
      with_instrs (args_code tells args draft) (Turn ∷ calling (tells f.mark.place).what ∷ [])
  expr_code tells (tree.Paren e) draft = expr_code tells e draft
  expr_code tells (tree.Unary op m e) draft = with_unary (worked_out op e) op m.line (type_by tells e) (expr_code tells e) draft
  expr_code tells (tree.Chain l first links) draft = links_code tells links (type_by tells first) (expr_code tells first draft)
  expr_code tells (tree.Choice c a b) draft =
      choice_code (next_label draft) (next_label (with_label draft)) (expr_code tells c) (expr_code tells a) (expr_code tells b)
      (with_label (with_label draft))

  pub place_code : (ℕ → Resolved) → tree.TargetTree → Emission
  place_code tells (tree.Variable n) draft = with_instrs draft (reading (tells n.mark.place).what n.mark.line)
  place_code tells (tree.Element n m e) draft = with_instr (expr_code tells e draft) (reading_at (tells n.mark.place).what m.line)

  -- the links of a chain behind a number of type `u`
  pub links_code : (ℕ → Resolved) → tree.Links → (u : Bool) → Emission
  links_code tells tree.no_links u draft = draft
  links_code tells (tree.link op m e rest) u draft =
      links_code tells rest (type_of_two op u (type_by tells e))
      (with_link op m.line u (type_by tells e) (expr_code tells e) draft)

  pub args_code : (ℕ → Resolved) → tree.Args → Emission
  args_code tells tree.no_args draft = draft
  args_code tells (tree.arg e es) draft = args_code tells es (expr_code tells e draft)
