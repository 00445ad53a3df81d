-- The code of expressions, conditions and changes keeps the labels that are there.
use Rattle.std.proofs.Common.{ℕ, zero, suc, Bool, true, false, [], ◌∷◌, Some, None, Option}
use Rattle.lowering_draft.proofs.Keeping.{Keeps, KeepsLabels, kept, keeps_instr, keeps_instrs, keeps_label, keeps_place, next_is_new, then_kept}
use Rattle.lowering_draft.specs.Draft.{next_label, with_label}
use Rattle.lowering_draft.specs.Emission.Changes.{aim_code, change_code, changed_code, operated_code, plain_aim, plain_code, stepped_code, store_code}
use Rattle.lowering_draft.specs.Emission.Conditions.{condition_code, conditions_code}
use Rattle.lowering_draft.specs.Emission.Expressions.{Emission, args_code, choice_code, expr_code, links_code, place_code, with_link, with_unary, worked_out}
use Rattle.lowering_draft.specs.declared.draft.Draft.{Draft}
use Rattle.lowering_draft.specs.declared.draft.Label.{Label}
use Rattle.os_ast.specs.Trees as tree
use Rattle.os_ast.specs.declared.expr.Binary.{Binary}
use Rattle.os_ast.specs.declared.expr.Binary.TheVariants as binary
use Rattle.os_ast.specs.declared.expr.Level.TheVariants as level
use Rattle.os_ast.specs.declared.expr.Unary.{Unary}
use Rattle.os_ast.specs.declared.names.Resolved.{Resolved}
use Rattle.os_ast.specs.declared.stmt.Assign.TheVariants as assign
use Rattle.lowering_relation.specs.Changes.{is_quiet, target_by}
use Rattle.std.specs.Int.{w32, cast_signed}
use Rattle.std.specs.Prelude.{ℤ, pos}
use Rattle.c_int.specs.Machine.{unary_for}
use Rattle.c_int.specs.declared.operators.Unary.TheVariants as int_unary
use Rattle.cddf_meaning.specs.Operators.{operator_of_one, step_operator}
use Rattle.cddf_meaning.specs.ExpressionTypes.{type_of_two}
use Rattle.lowering_draft.specs.Emission.Expressions.{literal}
use Rattle.os_code.specs.declared.instr.Instr.TheVariants as instr
use Rattle.os_code.specs.declared.instr.Instr.TheVariants.{Jump, JumpZero, Push, Turn}
use Rattle.lowering_relation.specs.Expressions.{operation, type_by}
use Rattle.lowering_relation.specs.Names.{aiming, calling, fetching, fetching_at, reading, reading_at, storing, storing_at}

-- code behind what keeps the labels
pub and_then_kept : {d m : Draft} {f : Emission} → Keeps d m → KeepsLabels f → Keeps d (f m)
and_then_kept {d} {m} a k = then_kept a (k m)

unary_kept : (v : Option ℤ) (op : Unary) (line : ℕ) (unsigned : Bool) {f : Emission} → KeepsLabels f → KeepsLabels (with_unary v op line unsigned f)
unary_kept (Some v) op line unsigned k d = keeps_instr (kept d) (Push v)
unary_kept None op line unsigned k d = keeps_instr (k d) (instr.Unary (unary_for unsigned (operator_of_one op)) line)

-- two labels for what comes
pub two_labels : (d : Draft) → Keeps d (with_label (with_label d))
two_labels d = keeps_label (keeps_label (kept d))

pub link_kept : (op : Binary) (line : ℕ) (u v : Bool) {f : Emission} → KeepsLabels f → KeepsLabels (with_link op line u v f)
link_kept binary.And line u v k d =
    keeps_place
    (keeps_instr
    (keeps_place
    (keeps_instrs (and_then_kept (keeps_instr (two_labels d) (JumpZero (next_label d).number)) k)
    (instr.Unary int_unary.Not line ∷ instr.Unary int_unary.Not line ∷ Jump (next_label (with_label d)).number ∷ []))
    (next_label d) (next_is_new (kept d)))
    (Push (pos 0)))
    (next_label (with_label d)) (next_is_new (keeps_label (kept d)))
link_kept binary.Or line u v k d =
    keeps_place
    (keeps_instrs
    (and_then_kept
    (keeps_place
    (keeps_instrs (two_labels d) (JumpZero (next_label d).number ∷ Push (pos 1) ∷ Jump (next_label (with_label d)).number ∷ []))
    (next_label d) (next_is_new (kept d)))
    k)
    (instr.Unary int_unary.Not line ∷ instr.Unary int_unary.Not line ∷ []))
    (next_label (with_label d)) (next_is_new (keeps_label (kept d)))
link_kept binary.BitOr line u v k d = keeps_instrs (k d) (operation binary.BitOr line u v)
link_kept binary.BitXor line u v k d = keeps_instrs (k d) (operation binary.BitXor line u v)
link_kept binary.BitAnd line u v k d = keeps_instrs (k d) (operation binary.BitAnd line u v)
link_kept binary.Equal line u v k d = keeps_instrs (k d) (operation binary.Equal line u v)
link_kept binary.Unequal line u v k d = keeps_instrs (k d) (operation binary.Unequal line u v)
link_kept binary.Less line u v k d = keeps_instrs (k d) (operation binary.Less line u v)
link_kept binary.LessEqual line u v k d = keeps_instrs (k d) (operation binary.LessEqual line u v)
link_kept binary.Greater line u v k d = keeps_instrs (k d) (operation binary.Greater line u v)
link_kept binary.GreaterEqual line u v k d = keeps_instrs (k d) (operation binary.GreaterEqual line u v)
link_kept binary.ShiftLeft line u v k d = keeps_instrs (k d) (operation binary.ShiftLeft line u v)
link_kept binary.ShiftRight line u v k d = keeps_instrs (k d) (operation binary.ShiftRight line u v)
link_kept binary.Add line u v k d = keeps_instrs (k d) (operation binary.Add line u v)
link_kept binary.Subtract line u v k d = keeps_instrs (k d) (operation binary.Subtract line u v)
link_kept binary.Multiply line u v k d = keeps_instrs (k d) (operation binary.Multiply line u v)
link_kept binary.Divide line u v k d = keeps_instrs (k d) (operation binary.Divide line u v)
link_kept binary.Remainder line u v k d = keeps_instrs (k d) (operation binary.Remainder line u v)

choice_kept : {c a b : Emission} → KeepsLabels c → KeepsLabels a → KeepsLabels b → (d : Draft)
    → Keeps d (choice_code (next_label d) (next_label (with_label d)) c a b (with_label (with_label d)))
choice_kept kc ka kb d =
    keeps_place
    (and_then_kept
    (keeps_place
    (keeps_instr
    (and_then_kept (keeps_instr (and_then_kept (two_labels d) kc) (JumpZero (next_label d).number)) ka)
    (Jump (next_label (with_label d)).number))
    (next_label d) (next_is_new (kept d)))
    kb)
    (next_label (with_label d)) (next_is_new (keeps_label (kept d)))

mutual
  pub expr_kept : (tells : ℕ → Resolved) (e : tree.ExprTree) → KeepsLabels (expr_code tells e)
  expr_kept tells (tree.Number n) d = keeps_instr (kept d) (Push (literal n))
  expr_kept tells (tree.Wide n) d = keeps_instr (kept d) (Push (cast_signed w32 n))
  expr_kept tells (tree.Place t) d = place_kept tells t d
  expr_kept tells (tree.ExprTree.Call f args) d = keeps_instrs (args_kept tells args d) (Turn ∷ calling (tells f.mark.place).what ∷ [])
  expr_kept tells (tree.Paren e) d = expr_kept tells e d
  expr_kept tells (tree.Unary op m e) d = unary_kept (worked_out op e) op m.line (type_by tells e) (expr_kept tells e) d
  expr_kept tells (tree.Chain l first links) d = and_then_kept (expr_kept tells first d) (links_kept tells links (type_by tells first))
  expr_kept tells (tree.Choice c a b) d = choice_kept (expr_kept tells c) (expr_kept tells a) (expr_kept tells b) d

  pub place_kept : (tells : ℕ → Resolved) (t : tree.TargetTree) → KeepsLabels (place_code tells t)
  place_kept tells (tree.Variable n) d = keeps_instrs (kept d) (reading (tells n.mark.place).what n.mark.line)
  place_kept tells (tree.Element n m e) d = keeps_instr (expr_kept tells e d) (reading_at (tells n.mark.place).what m.line)

  pub links_kept : (tells : ℕ → Resolved) (ls : tree.Links) (u : Bool) → KeepsLabels (links_code tells ls u)
  links_kept tells tree.no_links u d = kept d
  links_kept tells (tree.link op m e rest) u d =
      and_then_kept (link_kept op m.line u (type_by tells e) (expr_kept tells e) d) (links_kept tells rest (type_of_two op u (type_by tells e)))

  pub args_kept : (tells : ℕ → Resolved) (es : tree.Args) → KeepsLabels (args_code tells es)
  args_kept tells tree.no_args d = kept d
  args_kept tells (tree.arg e es) d = and_then_kept (expr_kept tells e d) (args_kept tells es)

mutual
  pub condition_kept : (tells : ℕ → Resolved) (e : tree.ExprTree) (fails : Label) → KeepsLabels (condition_code tells e fails)
  condition_kept tells (tree.Number zero) fails d = keeps_instr (expr_kept tells (tree.Number zero) d) (JumpZero fails.number)
  condition_kept tells (tree.Number (suc n)) fails d = kept d
  condition_kept tells (tree.Wide n) fails d = keeps_instr (expr_kept tells (tree.Wide n) d) (JumpZero fails.number)
  condition_kept tells (tree.Place t) fails d = keeps_instr (expr_kept tells (tree.Place t) d) (JumpZero fails.number)
  condition_kept tells (tree.ExprTree.Call f args) fails d = keeps_instr (expr_kept tells (tree.ExprTree.Call f args) d) (JumpZero fails.number)
  condition_kept tells (tree.Paren e) fails d = condition_kept tells e fails d
  condition_kept tells (tree.Unary op m e) fails d = keeps_instr (expr_kept tells (tree.Unary op m e) d) (JumpZero fails.number)
  condition_kept tells (tree.Choice c a b) fails d = keeps_instr (expr_kept tells (tree.Choice c a b) d) (JumpZero fails.number)
  condition_kept tells (tree.Chain level.And first links) fails d = and_then_kept (condition_kept tells first fails d) (conditions_kept tells links fails)
  condition_kept tells (tree.Chain level.Or first links) fails d = keeps_instr (expr_kept tells (tree.Chain level.Or first links) d) (JumpZero fails.number)
  condition_kept tells (tree.Chain level.BitOr first links) fails d = keeps_instr (expr_kept tells (tree.Chain level.BitOr first links) d) (JumpZero fails.number)
  condition_kept tells (tree.Chain level.BitXor first links) fails d = keeps_instr (expr_kept tells (tree.Chain level.BitXor first links) d) (JumpZero fails.number)
  condition_kept tells (tree.Chain level.BitAnd first links) fails d = keeps_instr (expr_kept tells (tree.Chain level.BitAnd first links) d) (JumpZero fails.number)
  condition_kept tells (tree.Chain level.Equal first links) fails d = keeps_instr (expr_kept tells (tree.Chain level.Equal first links) d) (JumpZero fails.number)
  condition_kept tells (tree.Chain level.Order first links) fails d = keeps_instr (expr_kept tells (tree.Chain level.Order first links) d) (JumpZero fails.number)
  condition_kept tells (tree.Chain level.Shift first links) fails d = keeps_instr (expr_kept tells (tree.Chain level.Shift first links) d) (JumpZero fails.number)
  condition_kept tells (tree.Chain level.Sum first links) fails d = keeps_instr (expr_kept tells (tree.Chain level.Sum first links) d) (JumpZero fails.number)
  condition_kept tells (tree.Chain level.Product first links) fails d = keeps_instr (expr_kept tells (tree.Chain level.Product first links) d) (JumpZero fails.number)

  pub conditions_kept : (tells : ℕ → Resolved) (ls : tree.Links) (fails : Label) → KeepsLabels (conditions_code tells ls fails)
  conditions_kept tells tree.no_links fails d = kept d
  conditions_kept tells (tree.link op m e rest) fails d = and_then_kept (condition_kept tells e fails d) (conditions_kept tells rest fails)

pub aim_kept : (tells : ℕ → Resolved) (old : Bool) (t : tree.TargetTree) → KeepsLabels (aim_code tells old t)
aim_kept tells old (tree.Variable n) d =
    keeps_instrs (keeps_instrs (kept d) (aiming (tells n.mark.place).what)) (fetching old (tells n.mark.place).what n.mark.line)
aim_kept tells old (tree.Element n m e) d = keeps_instrs (expr_kept tells e d) (fetching_at old (tells n.mark.place).what m.line)

pub store_kept : (tells : ℕ → Resolved) (t : tree.TargetTree) → KeepsLabels (store_code tells t)
store_kept tells (tree.Variable n) d = keeps_instr (kept d) (storing (tells n.mark.place).what n.mark.line)
store_kept tells (tree.Element n m e) d = keeps_instr (kept d) (storing_at (tells n.mark.place).what m.line)

changed_kept : (tells : ℕ → Resolved) (old : Bool) (t : tree.TargetTree) {f : Emission} → KeepsLabels f → KeepsLabels (changed_code tells old t f)
changed_kept tells old t k d = and_then_kept (and_then_kept (aim_kept tells old t d) k) (store_kept tells t)

pub operated_kept : (tells : ℕ → Resolved) (op : Binary) (line : ℕ) (u : Bool) (e : tree.ExprTree) → KeepsLabels (operated_code tells op line u e)
operated_kept tells op line u e d = keeps_instrs (expr_kept tells e d) (operation op line u (type_by tells e))

pub stepped_kept : (op : Binary) (line : ℕ) (u : Bool) → KeepsLabels (stepped_code op line u)
stepped_kept op line u d = keeps_instrs (keeps_instr (kept d) (Push (pos 1))) (operation op line u false)

plain_aim_kept : (tells : ℕ → Resolved) (quiet : Bool) (t : tree.TargetTree) → KeepsLabels (plain_aim tells quiet t)
plain_aim_kept tells true (tree.Variable n) d = aim_kept tells false (tree.Variable n) d
plain_aim_kept tells true (tree.Element n m i) d = expr_kept tells i d
plain_aim_kept tells false t d = aim_kept tells false t d

plain_kept : (tells : ℕ → Resolved) (t : tree.TargetTree) (e : tree.ExprTree) → KeepsLabels (plain_code tells t e)
plain_kept tells t e d = and_then_kept (and_then_kept (plain_aim_kept tells (is_quiet e) t d) (expr_kept tells e)) (store_kept tells t)

pub change_kept : (tells : ℕ → Resolved) (c : tree.ChangeTree) → KeepsLabels (change_code tells c)
change_kept tells (tree.Set t assign.Plain m e) d = plain_kept tells t e d
change_kept tells (tree.Set t (assign.With op) m e) d = changed_kept tells true t (operated_kept tells op m.line (target_by tells t) e) d
change_kept tells (tree.After t p m) d = changed_kept tells true t (stepped_kept (step_operator p) m.line (target_by tells t)) d
change_kept tells (tree.Before t p m) d = changed_kept tells true t (stepped_kept (step_operator p) m.line (target_by tells t)) d
