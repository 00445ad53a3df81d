-- Expressions and conditions have few instructions for their tokens.
use Rattle.std.proofs.Common.{ℕ, Bool, zero, suc, [], ◌∷◌, Option, Some, None, arith}
use Rattle.std.specs.Int.{w32, cast_signed}
use Rattle.std.specs.Prelude.{ℤ, pos}
use Rattle.c_int.specs.Machine.{unary_for}
use Rattle.c_int.specs.declared.operators.Unary.TheVariants as int_unary
use Rattle.cddf_meaning.specs.Operators.{operator_of_one}
use Rattle.cddf_meaning.specs.ExpressionTypes.{type_of_two}
use Rattle.lowering_draft.proofs.ExpressionsStand.{length-instr}
use Rattle.lowering_draft.proofs.Keeping.{KeepsLabels}
use Rattle.lowering_draft.proofs.KeptExpressions.{expr_kept}
use Rattle.lowering_draft.proofs.Paying.{Pays, length-instrs, operation_few, reading_few}
use Rattle.lowering_draft.specs.Draft.{next_label, with_instr, with_instrs, with_label, with_place}
use Rattle.lowering_draft.specs.Emission.Conditions.{condition_code, conditions_code}
use Rattle.lowering_draft.specs.Emission.Expressions.{Emission, args_code, expr_code, links_code, literal, place_code, with_link, with_unary, worked_out}
use Rattle.lowering_draft.specs.declared.draft.Label.{Label}
use Rattle.os_ast.specs.Spelling.{Printer, bare, expr, links, args, more_args, target}
use Rattle.os_ast.specs.Trees as tree
use Rattle.os_ast.specs.declared.expr.Binary.{Binary}
use Rattle.os_ast.specs.declared.expr.Binary.TheVariants as binary
use Rattle.os_ast.specs.declared.expr.Level.TheVariants as level
use Rattle.os_ast.specs.declared.expr.Unary.{Unary}
use Rattle.os_ast.specs.declared.names.Resolved.{Resolved}
use Rattle.os_code.specs.declared.instr.Instr.TheVariants as instr
use Rattle.os_code.specs.declared.instr.Instr.TheVariants.{Jump, JumpZero, Push, Turn}
use Rattle.os_lexer.specs.declared.token.Kind.TheVariants as kind
use Rattle.os_lexer.specs.declared.token.Punct.TheVariants as puncts
use Rattle.lowering_relation.specs.Expressions.{operation, type_by}
use Rattle.lowering_relation.specs.Names.{calling, reading, reading_at}

unary_pays : (v : Option ℤ) (op : Unary) (line : ℕ) (unsigned : Bool) (f : Emission) (p : Printer) → KeepsLabels f → Pays f p 0
    → Pays (with_unary v op line unsigned f) p 1
unary_pays (Some v) op line unsigned f p k pays d rest = omega (arith, pays d rest, (k d).no_shorter, length-instr d (Push v))
unary_pays None op line unsigned f p k pays d rest = omega (arith, pays d rest, length-instr (f d) (instr.Unary (unary_for unsigned (operator_of_one op)) line))

operated_pays : (op : Binary) (line : ℕ) (u v : Bool) (f : Emission) (p : Printer) → Pays f p 0 → Pays (λ d. with_instrs (f d) (operation op line u v)) p 5
operated_pays op line u v f p pays d rest = omega (arith, pays d rest, length-instrs (f d) (operation op line u v), operation_few op line u v)

link_pays : (op : Binary) (line : ℕ) (u v : Bool) (f : Emission) (p : Printer) → Pays f p 0 → Pays (with_link op line u v f) p 5
link_pays binary.And line u v f p pays d rest =
    let zero = next_label d in
    let done = next_label (with_label d) in
    let d2 = with_label (with_label d) in
    let d3 = with_instr d2 (JumpZero zero.number) in
    let js = instr.Unary int_unary.Not line ∷ instr.Unary int_unary.Not line ∷ Jump done.number ∷ [] in
    let d4 = with_place (with_instrs (f d3) js) zero in
    omega (arith, pays d3 rest, length-instr d2 (JumpZero zero.number), length-instrs (f d3) js, length-instr d4 (Push (pos 0)))
link_pays binary.Or line u v f p pays d rest =
    let zero = next_label d in
    let done = next_label (with_label d) in
    let d2 = with_label (with_label d) in
    let js = JumpZero zero.number ∷ Push (pos 1) ∷ Jump done.number ∷ [] in
    let d3 = with_place (with_instrs d2 js) zero in
    let truth = instr.Unary int_unary.Not line ∷ instr.Unary int_unary.Not line ∷ [] in
    omega (arith, pays d3 rest, length-instrs d2 js, length-instrs (f d3) truth)
link_pays binary.BitOr line u v f p pays d rest = operated_pays binary.BitOr line u v f p pays d rest
link_pays binary.BitXor line u v f p pays d rest = operated_pays binary.BitXor line u v f p pays d rest
link_pays binary.BitAnd line u v f p pays d rest = operated_pays binary.BitAnd line u v f p pays d rest
link_pays binary.Equal line u v f p pays d rest = operated_pays binary.Equal line u v f p pays d rest
link_pays binary.Unequal line u v f p pays d rest = operated_pays binary.Unequal line u v f p pays d rest
link_pays binary.Less line u v f p pays d rest = operated_pays binary.Less line u v f p pays d rest
link_pays binary.LessEqual line u v f p pays d rest = operated_pays binary.LessEqual line u v f p pays d rest
link_pays binary.Greater line u v f p pays d rest = operated_pays binary.Greater line u v f p pays d rest
link_pays binary.GreaterEqual line u v f p pays d rest = operated_pays binary.GreaterEqual line u v f p pays d rest
link_pays binary.ShiftLeft line u v f p pays d rest = operated_pays binary.ShiftLeft line u v f p pays d rest
link_pays binary.ShiftRight line u v f p pays d rest = operated_pays binary.ShiftRight line u v f p pays d rest
link_pays binary.Add line u v f p pays d rest = operated_pays binary.Add line u v f p pays d rest
link_pays binary.Subtract line u v f p pays d rest = operated_pays binary.Subtract line u v f p pays d rest
link_pays binary.Multiply line u v f p pays d rest = operated_pays binary.Multiply line u v f p pays d rest
link_pays binary.Divide line u v f p pays d rest = operated_pays binary.Divide line u v f p pays d rest
link_pays binary.Remainder line u v f p pays d rest = operated_pays binary.Remainder line u v f p pays d rest

module _ (tells : ℕ → Resolved) where
  mutual
    pub expr_pays : (e : tree.ExprTree) → Pays (expr_code tells e) (expr e) 0
    expr_pays (tree.Number n) d rest = omega (arith, length-instr d (Push (literal n)))
    expr_pays (tree.Wide n) d rest = omega (arith, length-instr d (Push (cast_signed w32 n)))
    expr_pays (tree.Place t) d rest = target_pays t d rest
    expr_pays (tree.ExprTree.Call f es) d rest =
        let closed = bare (kind.Punct puncts.CloseParen) ∷ rest in
        omega (arith, args_pay es d closed, length-instrs (args_code tells es d) (Turn ∷ calling (tells f.mark.place).what ∷ []))
    expr_pays (tree.Paren e) d rest = omega (arith, expr_pays e d (bare (kind.Punct puncts.CloseParen) ∷ rest))
    expr_pays (tree.Unary op m e) d rest =
        omega (arith, unary_pays (worked_out op e) op m.line (type_by tells e) (expr_code tells e) (expr e) (expr_kept tells e) (expr_pays e) d rest)
    expr_pays (tree.Chain l first ls) d rest = omega (arith, expr_pays first d (links ls rest), links_pay ls (type_by tells first) (expr_code tells first d) rest)
    expr_pays (tree.Choice c a b) d rest =
        let otherwise = next_label d in
        let done = next_label (with_label d) in
        let d2 = with_label (with_label d) in
        let dc = expr_code tells c d2 in
        let d3 = with_instr dc (JumpZero otherwise.number) in
        let da = expr_code tells a d3 in
        let d4 = with_instr da (Jump done.number) in
        let d5 = with_place d4 otherwise in
        let second = expr b rest in
        let first = expr a (bare (kind.Punct puncts.Colon) ∷ second) in
        omega (
          arith,
          expr_pays c d2 (bare (kind.Punct puncts.Question) ∷ first),
          length-instr dc (JumpZero otherwise.number),
          expr_pays a d3 (bare (kind.Punct puncts.Colon) ∷ second),
          length-instr da (Jump done.number),
          expr_pays b d5 rest,
        )

    pub target_pays : (t : tree.TargetTree) → Pays (place_code tells t) (target t) 0
    target_pays (tree.Variable n) d rest =
        omega (arith, length-instrs d (reading (tells n.mark.place).what n.mark.line), reading_few (tells n.mark.place).what n.mark.line)
    target_pays (tree.Element n m e) d rest =
        omega (arith, expr_pays e d (bare (kind.Punct puncts.CloseBracket) ∷ rest), length-instr (expr_code tells e d) (reading_at (tells n.mark.place).what m.line))

    links_pay : (ls : tree.Links) (u : Bool) → Pays (links_code tells ls u) (links ls) 0
    links_pay tree.no_links u d rest = omega arith
    links_pay (tree.link op m e more) u d rest =
        omega (
          arith,
          link_pays op m.line u (type_by tells e) (expr_code tells e) (expr e) (expr_pays e) d (links more rest),
          links_pay more (type_of_two op u (type_by tells e)) (with_link op m.line u (type_by tells e) (expr_code tells e) d) rest,
        )

    args_pay : (es : tree.Args) → Pays (args_code tells es) (args es) 0
    args_pay tree.no_args d rest = omega arith
    args_pay (tree.arg e es) d rest = omega (arith, expr_pays e d (more_args es rest), more_args_pay es (expr_code tells e d) rest)

    more_args_pay : (es : tree.Args) → Pays (args_code tells es) (more_args es) 0
    more_args_pay tree.no_args d rest = omega arith
    more_args_pay (tree.arg e es) d rest = omega (arith, expr_pays e d (more_args es rest), more_args_pay es (expr_code tells e d) rest)

  tested_pays : (e : tree.ExprTree) (fails : Label) → Pays (λ d. with_instr (expr_code tells e d) (JumpZero fails.number)) (expr e) 1
  tested_pays e fails d rest = omega (arith, expr_pays e d rest, length-instr (expr_code tells e d) (JumpZero fails.number))

  mutual
    pub condition_pays : (e : tree.ExprTree) (fails : Label) → Pays (condition_code tells e fails) (expr e) 1
    condition_pays (tree.Number zero) fails d rest = tested_pays (tree.Number zero) fails d rest
    condition_pays (tree.Number (suc n)) fails d rest = omega arith
    condition_pays (tree.Wide n) fails d rest = tested_pays (tree.Wide n) fails d rest
    condition_pays (tree.Place t) fails d rest = tested_pays (tree.Place t) fails d rest
    condition_pays (tree.ExprTree.Call f es) fails d rest = tested_pays (tree.ExprTree.Call f es) fails d rest
    condition_pays (tree.Paren e) fails d rest = omega (arith, condition_pays e fails d (bare (kind.Punct puncts.CloseParen) ∷ rest))
    condition_pays (tree.Unary op m e) fails d rest = tested_pays (tree.Unary op m e) fails d rest
    condition_pays (tree.Choice c a b) fails d rest = tested_pays (tree.Choice c a b) fails d rest
    condition_pays (tree.Chain level.And first ls) fails d rest =
        omega (arith, condition_pays first fails d (links ls rest), conditions_pay ls fails (condition_code tells first fails d) rest)
    condition_pays (tree.Chain level.Or first ls) fails d rest = tested_pays (tree.Chain level.Or first ls) fails d rest
    condition_pays (tree.Chain level.BitOr first ls) fails d rest = tested_pays (tree.Chain level.BitOr first ls) fails d rest
    condition_pays (tree.Chain level.BitXor first ls) fails d rest = tested_pays (tree.Chain level.BitXor first ls) fails d rest
    condition_pays (tree.Chain level.BitAnd first ls) fails d rest = tested_pays (tree.Chain level.BitAnd first ls) fails d rest
    condition_pays (tree.Chain level.Equal first ls) fails d rest = tested_pays (tree.Chain level.Equal first ls) fails d rest
    condition_pays (tree.Chain level.Order first ls) fails d rest = tested_pays (tree.Chain level.Order first ls) fails d rest
    condition_pays (tree.Chain level.Shift first ls) fails d rest = tested_pays (tree.Chain level.Shift first ls) fails d rest
    condition_pays (tree.Chain level.Sum first ls) fails d rest = tested_pays (tree.Chain level.Sum first ls) fails d rest
    condition_pays (tree.Chain level.Product first ls) fails d rest = tested_pays (tree.Chain level.Product first ls) fails d rest

    conditions_pay : (ls : tree.Links) (fails : Label) → Pays (conditions_code tells ls fails) (links ls) 0
    conditions_pay tree.no_links fails d rest = omega arith
    conditions_pay (tree.link op m e more) fails d rest =
        omega (arith, condition_pays e fails d (links more rest), conditions_pay more fails (condition_code tells e fails d) rest)
