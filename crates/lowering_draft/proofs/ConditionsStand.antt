-- The code that drafts of conditions and changes become stands for them.
use Rattle.std.proofs.Common.{◌≡◌, ℕ, zero, suc, Bool, true, false, length, ap, subst, sym}
use Rattle.std.proofs.lemmas.Bool.{false≢true}
use Rattle.lowering_draft.proofs.Becoming.{back, instr_stands}
use Rattle.lowering_draft.proofs.ExpressionsStand.{expr_stands, length-instr}
use Rattle.lowering_draft.proofs.Keeping.{kept, keeps_instr}
use Rattle.lowering_draft.proofs.KeptExpressions.{conditions_kept}
use Rattle.lowering_draft.specs.Draft.{Becomes, with_instr}
use Rattle.lowering_draft.specs.Emission.Conditions.{condition_code, conditions_code}
use Rattle.lowering_draft.specs.Emission.Expressions.{expr_code}
use Rattle.lowering_draft.specs.declared.draft.Draft.{Draft}
use Rattle.lowering_draft.specs.declared.draft.Label.{Label}
use Rattle.os_ast.specs.Leveled as leveled
use Rattle.os_ast.specs.Leveled.{IsExpr, AreLinks}
use Rattle.os_ast.specs.Operators.{level_of}
use Rattle.os_ast.specs.Trees as tree
use Rattle.os_ast.specs.declared.expr.Binary.{Binary}
use Rattle.os_ast.specs.declared.expr.Binary.TheVariants as binary
use Rattle.os_ast.specs.declared.expr.Level.{Level}
use Rattle.os_ast.specs.declared.expr.Level.TheVariants as level
use Rattle.os_ast.specs.declared.expr.Mark.{Mark}
use Rattle.os_ast.specs.declared.names.Resolved.{Resolved}
use Rattle.os_code.specs.declared.instr.Instr.TheVariants.{JumpZero}
use Rattle.os_code.specs.declared.parts.Parts.{Parts}
use Rattle.lowering_relation.specs.Expressions.{HasCondition, HaveConditions, tested, always, in_parens, each, no_more, one_more}

abbrev is_and : Level → Bool
is_and level.And = true
is_and _ = false

-- a link of `&&` is one
and_link : (code : Parts) (tells : ℕ → Resolved) (fails : ℕ) (op : Binary) (m : Mark) (e : tree.ExprTree) (rest : tree.Links) (from mid to : ℕ)
    → level_of op ≡ level.And → HasCondition code tells e fails from mid → HaveConditions code tells rest fails mid to
    → HaveConditions code tells (tree.link op m e rest) fails from to
and_link code tells fails binary.And m e rest from mid to same first more = one_more first more
and_link code tells fails binary.Or m e rest from mid to same first more = absurd (false≢true (ap is_and same))
and_link code tells fails binary.BitOr m e rest from mid to same first more = absurd (false≢true (ap is_and same))
and_link code tells fails binary.BitXor m e rest from mid to same first more = absurd (false≢true (ap is_and same))
and_link code tells fails binary.BitAnd m e rest from mid to same first more = absurd (false≢true (ap is_and same))
and_link code tells fails binary.Equal m e rest from mid to same first more = absurd (false≢true (ap is_and same))
and_link code tells fails binary.Unequal m e rest from mid to same first more = absurd (false≢true (ap is_and same))
and_link code tells fails binary.Less m e rest from mid to same first more = absurd (false≢true (ap is_and same))
and_link code tells fails binary.LessEqual m e rest from mid to same first more = absurd (false≢true (ap is_and same))
and_link code tells fails binary.Greater m e rest from mid to same first more = absurd (false≢true (ap is_and same))
and_link code tells fails binary.GreaterEqual m e rest from mid to same first more = absurd (false≢true (ap is_and same))
and_link code tells fails binary.ShiftLeft m e rest from mid to same first more = absurd (false≢true (ap is_and same))
and_link code tells fails binary.ShiftRight m e rest from mid to same first more = absurd (false≢true (ap is_and same))
and_link code tells fails binary.Add m e rest from mid to same first more = absurd (false≢true (ap is_and same))
and_link code tells fails binary.Subtract m e rest from mid to same first more = absurd (false≢true (ap is_and same))
and_link code tells fails binary.Multiply m e rest from mid to same first more = absurd (false≢true (ap is_and same))
and_link code tells fails binary.Divide m e rest from mid to same first more = absurd (false≢true (ap is_and same))
and_link code tells fails binary.Remainder m e rest from mid to same first more = absurd (false≢true (ap is_and same))

module _ {code : Parts} {place_of : ℕ → ℕ} (tells : ℕ → Resolved) (fails : Label) where
  -- a value and its test
  tested_stands : (e : tree.ExprTree) → IsExpr e → (d : Draft) → Becomes (with_instr (expr_code tells e d) (JumpZero fails.number)) code place_of →
      HasCondition code tells e (place_of fails.number) (length d.instrs) (length (with_instr (expr_code tells e d) (JumpZero fails.number)).instrs)
  tested_stands e is d b =
      let made = expr_code tells e d in
      subst (HasCondition code tells e (place_of fails.number) (length d.instrs)) (sym (length-instr made (JumpZero fails.number)))
      (tested (length made.instrs) (expr_stands tells e is d (back (keeps_instr (kept made) (JumpZero fails.number)) b)) (instr_stands made (JumpZero fails.number) b))

  mutual
    pub condition_stands : (e : tree.ExprTree) → IsExpr e → (d : Draft) → Becomes (condition_code tells e fails d) code place_of →
        HasCondition code tells e (place_of fails.number) (length d.instrs) (length (condition_code tells e fails d).instrs)
    condition_stands (tree.Number zero) is d b = tested_stands (tree.Number zero) is d b
    condition_stands (tree.Number (suc n)) is d b = always
    condition_stands (tree.Wide n) is d b = tested_stands (tree.Wide n) is d b
    condition_stands (tree.Place t) is d b = tested_stands (tree.Place t) is d b
    condition_stands (tree.ExprTree.Call f args) is d b = tested_stands (tree.ExprTree.Call f args) is d b
    condition_stands (tree.Paren e) (leveled.paren is) d b = in_parens (condition_stands e is d b)
    condition_stands (tree.Unary op m e) is d b = tested_stands (tree.Unary op m e) is d b
    condition_stands (tree.Choice c x y) is d b = tested_stands (tree.Choice c x y) is d b
    condition_stands (tree.Chain level.And first tree.no_links) is d b = elim is [ ]
    condition_stands (tree.Chain level.And first (tree.link op m e rest)) (leveled.chain is low are) d b =
        each (condition_stands first is d (back (conditions_kept tells (tree.link op m e rest) fails (condition_code tells first fails d)) b))
        (conditions_stand (tree.link op m e rest) are (condition_code tells first fails d) b)
    condition_stands (tree.Chain level.Or first links) is d b = tested_stands (tree.Chain level.Or first links) is d b
    condition_stands (tree.Chain level.BitOr first links) is d b = tested_stands (tree.Chain level.BitOr first links) is d b
    condition_stands (tree.Chain level.BitXor first links) is d b = tested_stands (tree.Chain level.BitXor first links) is d b
    condition_stands (tree.Chain level.BitAnd first links) is d b = tested_stands (tree.Chain level.BitAnd first links) is d b
    condition_stands (tree.Chain level.Equal first links) is d b = tested_stands (tree.Chain level.Equal first links) is d b
    condition_stands (tree.Chain level.Order first links) is d b = tested_stands (tree.Chain level.Order first links) is d b
    condition_stands (tree.Chain level.Shift first links) is d b = tested_stands (tree.Chain level.Shift first links) is d b
    condition_stands (tree.Chain level.Sum first links) is d b = tested_stands (tree.Chain level.Sum first links) is d b
    condition_stands (tree.Chain level.Product first links) is d b = tested_stands (tree.Chain level.Product first links) is d b

    conditions_stand : (ls : tree.Links) → AreLinks level.And ls → (d : Draft) → Becomes (conditions_code tells ls fails d) code place_of →
        HaveConditions code tells ls (place_of fails.number) (length d.instrs) (length (conditions_code tells ls fails d).instrs)
    conditions_stand tree.no_links are d b = no_more
    conditions_stand (tree.link op m e rest) (leveled.link same is low are) d b =
        let made = condition_code tells e fails d in
        and_link code tells (place_of fails.number) op m e rest (length d.instrs) (length made.instrs) (length (conditions_code tells rest fails made).instrs) same
        (condition_stands e is d (back (conditions_kept tells rest fails made) b))
        (conditions_stand rest are made b)
