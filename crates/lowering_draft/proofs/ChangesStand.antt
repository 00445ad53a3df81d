-- The code that drafts of changes become stands for them.
use Rattle.std.proofs.Common.{◌≡◌, ◌∙◌, ℕ, Bool, true, false, [], ◌∷◌, map, length, Some, ap, subst, sym, refl}
use Rattle.std.specs.Prelude.{pos}
use Rattle.cddf_meaning.specs.Operators.{step_operator}
use Rattle.lowering_draft.proofs.Becoming.{back, instr_stands}
use Rattle.lowering_draft.proofs.ExpressionsStand.{IsPart, expr_stands, length-instr, plain-operation, plain-reading, plain-reading_at, stands-append, stands_instr, stands_plain}
use Rattle.lowering_draft.proofs.Keeping.{kept, keeps_instr, keeps_instrs}
use Rattle.lowering_draft.proofs.KeptExpressions.{expr_kept, operated_kept, stepped_kept}
use Rattle.lowering_draft.specs.Draft.{Becomes, with_instrs, with_places}
use Rattle.lowering_draft.specs.Emission.Changes.{change_code, changed_code, operated_code, plain_aim, stepped_code, store_code}
use Rattle.lowering_draft.specs.Emission.Expressions.{Emission, expr_code}
use Rattle.lowering_draft.specs.declared.draft.Draft.{Draft}
use Rattle.os_ast.specs.Leveled as leveled
use Rattle.os_ast.specs.Leveled.{IsChange, IsExpr, IsTarget}
use Rattle.os_ast.specs.Trees as tree
use Rattle.os_ast.specs.declared.expr.Binary.{Binary}
use Rattle.os_ast.specs.declared.expr.Mark.{Mark}
use Rattle.os_ast.specs.declared.names.Resolved.{Resolved}
use Rattle.os_ast.specs.declared.names.What.{What}
use Rattle.os_ast.specs.declared.names.What.TheVariants as what
use Rattle.os_ast.specs.declared.stmt.Assign.TheVariants as assign
use Rattle.os_code.specs.declared.instr.Instr.TheVariants.{Copy, Push}
use Rattle.os_code.specs.declared.parts.Parts.{Parts}
use Rattle.lowering_relation.specs.Changes.{HasAssigned, HasChange, HasChanged, HasStepped, is_quiet, target_by, set, set_unchecked, after, before}
use Rattle.lowering_relation.specs.Expressions.{operation, type_by}
use Rattle.lowering_relation.specs.Names.{aiming, checking_at, fetching, fetching_at, storing, storing_at}

-- instructions without labels
module _ (place_of : ℕ → ℕ) where
  plain-aiming : (w : What) → map (with_places place_of) (aiming w) ≡ aiming w
  plain-aiming (what.Constant v) = refl
  plain-aiming (what.Function n) = refl
  plain-aiming (what.Scalar slot) = refl
  plain-aiming (what.Array first size) = refl
  plain-aiming (what.Window slot) = refl
  plain-aiming (what.Stream first count) = refl
  plain-aiming (what.Element item) = refl
  plain-aiming (what.View item) = refl

  plain-checking_at : (w : What) (line : ℕ) → with_places place_of (checking_at w line) ≡ checking_at w line
  plain-checking_at (what.Constant v) line = refl
  plain-checking_at (what.Function n) line = refl
  plain-checking_at (what.Scalar slot) line = refl
  plain-checking_at (what.Array first size) line = refl
  plain-checking_at (what.Window slot) line = refl
  plain-checking_at (what.Stream first count) line = refl
  plain-checking_at (what.Element item) line = refl
  plain-checking_at (what.View item) line = refl

  plain-storing : (w : What) (line : ℕ) → with_places place_of (storing w line) ≡ storing w line
  plain-storing (what.Constant v) line = refl
  plain-storing (what.Function n) line = refl
  plain-storing (what.Scalar slot) line = refl
  plain-storing (what.Array first size) line = refl
  plain-storing (what.Window slot) line = refl
  plain-storing (what.Stream first count) line = refl
  plain-storing (what.Element item) line = refl
  plain-storing (what.View item) line = refl

  plain-storing_at : (w : What) (line : ℕ) → with_places place_of (storing_at w line) ≡ storing_at w line
  plain-storing_at (what.Constant v) line = refl
  plain-storing_at (what.Function n) line = refl
  plain-storing_at (what.Scalar slot) line = refl
  plain-storing_at (what.Array first size) line = refl
  plain-storing_at (what.Window slot) line = refl
  plain-storing_at (what.Stream first count) line = refl
  plain-storing_at (what.Element item) line = refl
  plain-storing_at (what.View item) line = refl

  plain-fetching : (old : Bool) (w : What) (line : ℕ) → map (with_places place_of) (fetching old w line) ≡ fetching old w line
  plain-fetching true w line = plain-reading place_of w line
  plain-fetching false w line = refl

  plain-fetching_at : (old : Bool) (w : What) (line : ℕ) → map (with_places place_of) (fetching_at old w line) ≡ fetching_at old w line
  plain-fetching_at true w line = ap (λ i. Copy ∷ i ∷ []) (plain-reading_at place_of w line)
  plain-fetching_at false w line = ap (λ i. i ∷ []) (plain-checking_at w line)

module _ {code : Parts} {place_of : ℕ → ℕ} (tells : ℕ → Resolved) where
  changed_stands : (old : Bool) (t : tree.TargetTree) → IsTarget t → {f : Emission} {right : (from to : ℕ) → Type 0} → IsPart code place_of f right → (d : Draft)
      → Becomes (changed_code tells old t f d) code place_of → HasChanged code tells old t right (length d.instrs) (length (changed_code tells old t f d).instrs)
  changed_stands old (tree.Variable n) is {f} {right} part d b =
      let w = (tells n.mark.place).what in
      let line = n.mark.line in
      let aimed = with_instrs d (aiming w) in
      let fetched = with_instrs aimed (fetching old w line) in
      let made = f fetched in
      let bm : Becomes made code place_of = back (keeps_instr (kept made) (storing w line)) b in
      let bf : Becomes fetched code place_of = back (part.keeps fetched) bm in (
        length fetched.instrs,
        length made.instrs,
        stands-append code (aiming w) (fetching old w line) (length d.instrs) (length aimed.instrs) (length fetched.instrs)
            (stands_plain d (aiming w) (plain-aiming place_of w) (back (keeps_instrs (kept aimed) (fetching old w line)) bf))
            (stands_plain aimed (fetching old w line) (plain-fetching place_of old w line) bf),
        part.stands fetched bm,
        stands_instr made (storing w line) (plain-storing place_of w line) b,
      )
  changed_stands old (tree.Element n m e) (leveled.element is) {f} {right} part d b =
      let w = (tells n.mark.place).what in
      let line = m.line in
      let index = expr_code tells e d in
      let fetched = with_instrs index (fetching_at old w line) in
      let made = f fetched in
      let bm : Becomes made code place_of = back (keeps_instr (kept made) (storing_at w line)) b in
      let bf : Becomes fetched code place_of = back (part.keeps fetched) bm in (
        length index.instrs,
        length fetched.instrs,
        length made.instrs,
        expr_stands tells e is d (back (keeps_instrs (kept index) (fetching_at old w line)) bf),
        stands_plain index (fetching_at old w line) (plain-fetching_at place_of old w line) bf,
        part.stands fetched bm,
        stands_instr made (storing_at w line) (plain-storing_at place_of w line) b,
      )

  plain_part : (line : ℕ) (u : Bool) (e : tree.ExprTree) → IsExpr e → IsPart code place_of (expr_code tells e) (HasAssigned code tells assign.Plain line u e)
  plain_part line u e is = record { keeps = expr_kept tells e; stands = λ d b. (length (expr_code tells e d).instrs, expr_stands tells e is d b, refl) }

  operated_part : (op : Binary) (line : ℕ) (u : Bool) (e : tree.ExprTree) → IsExpr e →
      IsPart code place_of (operated_code tells op line u e) (HasAssigned code tells (assign.With op) line u e)
  operated_part op line u e is = record {
    keeps = operated_kept tells op line u e;
    stands = λ d b. (
      length (expr_code tells e d).instrs,
      expr_stands tells e is d (back (keeps_instrs (kept (expr_code tells e d)) (operation op line u (type_by tells e))) b),
      stands_plain (expr_code tells e d) (operation op line u (type_by tells e)) (plain-operation place_of op line u (type_by tells e)) b,
    );
  }

  stepped_part : (op : Binary) (line : ℕ) (u : Bool) → IsPart code place_of (stepped_code op line u) (HasStepped code op line u)
  stepped_part op line u = record {
    keeps = stepped_kept op line u;
    stands = λ d b. stands_plain d (Push (pos 1) ∷ operation op line u false) (ap (λ is. Push (pos 1) ∷ is) (plain-operation place_of op line u false)) b;
  }

  plain_by : (q : Bool) (t : tree.TargetTree) → IsTarget t → (m : Mark) (e : tree.ExprTree) → IsExpr e → is_quiet e ≡ q → (d : Draft)
      → Becomes (store_code tells t (expr_code tells e (plain_aim tells q t d))) code place_of
      → HasChange code tells (tree.Set t assign.Plain m e) (length d.instrs) (length (store_code tells t (expr_code tells e (plain_aim tells q t d))).instrs)
  plain_by true (tree.Variable n) is_t m e is quiet d b =
      set (changed_stands false (tree.Variable n) is_t (plain_part m.line (target_by tells (tree.Variable n)) e is) d b)
  plain_by true (tree.Element n bracket i) (leveled.element is_i) m e is quiet d b =
      let index = expr_code tells i d in
      let made = expr_code tells e index in
      let stored = storing_at (tells n.mark.place).what bracket.line in
      let bm : Becomes made code place_of = back (keeps_instr (kept made) stored) b in
      subst (HasChange code tells (tree.Set (tree.Element n bracket i) assign.Plain m e) (length d.instrs)) (sym (length-instr made stored))
      (set_unchecked (length index.instrs) (length made.instrs) quiet (expr_stands tells i is_i d (back (expr_kept tells e index) bm)) (expr_stands tells e is index bm)
      (instr_stands made stored b ∙ ap Some (plain-storing_at place_of (tells n.mark.place).what bracket.line)))
  plain_by false t is_t m e is quiet d b = set (changed_stands false t is_t (plain_part m.line (target_by tells t) e is) d b)

  pub change_stands : (c : tree.ChangeTree) → IsChange c → (d : Draft) → Becomes (change_code tells c d) code place_of →
      HasChange code tells c (length d.instrs) (length (change_code tells c d).instrs)
  change_stands (tree.Set t assign.Plain m e) (leveled.set is_t is_a is_e) d b = plain_by (is_quiet e) t is_t m e is_e refl d b
  change_stands (tree.Set t (assign.With op) m e) (leveled.set is_t is_a is_e) d b =
      set (changed_stands true t is_t (operated_part op m.line (target_by tells t) e is_e) d b)
  change_stands (tree.After t p m) (leveled.after is_t) d b = after (changed_stands true t is_t (stepped_part (step_operator p) m.line (target_by tells t)) d b)
  change_stands (tree.Before t p m) (leveled.before is_t) d b = before (changed_stands true t is_t (stepped_part (step_operator p) m.line (target_by tells t)) d b)
