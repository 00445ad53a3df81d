-- The code of a condition goes where its value leads.
use Rattle.std.proofs.Common.{◌≡◌, ℕ, suc, ◌+◌, Bool, true, false, not, if◌then◌else◌, List, Option, Some, None, Ok, ltb, ℤ, pos, refl, sym, ap, ◌∙◌, subst, arith}
use Rattle.c_int.specs.Operators.{is_zero, truth}
use Rattle.cddf_meaning.specs.Answers.{Answer, and_then, Left, left}
use Rattle.cddf_meaning.specs.File.{type_in}
use Rattle.cddf_meaning.specs.Run.{run_test}
use Rattle.cddf_meaning.specs.BodyState.{BodyState}
use Rattle.cddf_meaning.specs.Value.{as_truth, value, chained}
use Rattle.os_ast.specs.Names.{Scope}
use Rattle.os_ast.specs.Notes.Expressions.{expr_notes, links_notes, value_notes}
use Rattle.os_ast.specs.Trees as tree
use Rattle.os_ast.specs.declared.names.Entry.{Entry}
use Rattle.os_code.specs.declared.instr.Instr.TheVariants as instr
use Rattle.os_code.specs.declared.parts.Parts.{Parts}
use Rattle.os_code.specs.Machine as machine
use Rattle.os_code.specs.Machine.{Frame}
use Rattle.os_code.specs.Parts.{instr_at}
use Rattle.lowering_relation.specs.Expressions.{HasCondition, tested, always, in_parens, each, HaveConditions, no_more, one_more}
use Rattle.lowering_relation.specs.Statements.{HasTest}
use Rattle.lowering_relation.proofs.Context.{Context, tells, Agree, agree_first, agree_rest}
use Rattle.lowering_relation.proofs.Exprs.{Ready, expr_runs}
use Rattle.lowering_relation.proofs.Flows.{branched}
use Rattle.lowering_relation.proofs.Steps.{Store, at, pushed, Leads, stays, leads_on, Meets, gives, halts, meets_then, meets_in, branch}

module _ (code : Parts) (callers : List Frame) (stack : List ℤ) (m : Store) where
  branch_on : {s : machine.MachineState} {a : Answer (Left ℤ)} (end fails : ℕ) → instr_at code end ≡ Some (instr.JumpZero fails) →
      Meets code s (pushed callers end stack m) a → Meets code s (branched callers fails (end + 1) stack m) a
  branch_on end fails is (gives n u l) = gives n tt (leads_on code l (branch code callers end fails n.value stack m n.turns (is_zero n.value) refl is))
  branch_on end fails is (halts h) = halts h

  -- where it is known whether the value is 0
  holds : (v : ℤ) (turns fails to : ℕ) → is_zero v ≡ false → Leads code (at callers to stack m turns) (at callers (if is_zero v then fails else to) stack m turns)
  holds v turns fails to e = subst (λ t. Leads code (at callers to stack m turns) (at callers (if t then fails else to) stack m turns)) (sym e) stays

  fails_at : (v : ℤ) (turns fails to : ℕ) → is_zero v ≡ true → Leads code (at callers fails stack m turns) (at callers (if is_zero v then fails else to) stack m turns)
  fails_at v turns fails to e = subst (λ t. Leads code (at callers fails stack m turns) (at callers (if t then fails else to) stack m turns)) (sym e) stays

module _ (c : Context) (callers : List Frame) (s : Scope) (es : List Entry) (st : BodyState) (m : Store) (ready : Ready c s es st m) (stack : List ℤ) where
  -- a chain of `&&` behind 0 is 0
  zero_chain : {links : tree.Links} {fails mid to : ℕ} → HaveConditions c.code (tells c) links fails mid to → (y : Bool) (n : Left ℤ) → is_zero n.value ≡ true →
      (v : ℤ) × (chained c.file links st y n ≡ Ok (left v n.turns)) × (is_zero v ≡ true)
  zero_chain no_more y n z = (n.value, refl, z)
  zero_chain (one_more {m = mark} {e = e} {rest = rest} h more) y n z =
      let r = zero_chain more false (left (pos 0) n.turns) refl in
      (r.0, ap (λ t. and_then (if t then Ok (left (pos 0) n.turns) else and_then (value c.file e st n.turns) as_truth) (chained c.file rest st false)) z ∙ r.1, r.2)

  not_zero : (t : Bool) → is_zero (truth (not t)) ≡ t
  not_zero true = refl
  not_zero false = refl

  -- behind a condition, by whether its value is 0
  behind : {links : tree.Links} {fails mid to : ℕ} (t y : Bool) (n : Left ℤ) → is_zero n.value ≡ t → HaveConditions c.code (tells c) links fails mid to →
      (is_zero n.value ≡ false → Meets c.code (at callers mid stack m n.turns) (branched callers fails to stack m) (chained c.file links st y n)) →
      Meets c.code (at callers (if is_zero n.value then fails else mid) stack m n.turns) (branched callers fails to stack m) (chained c.file links st y n)
  behind {links = links} {fails = fails} {mid = mid} {to = to} true y n z more go =
      let r = zero_chain more y n z in
      subst (λ b. Meets c.code (at callers (if b then fails else mid) stack m n.turns) (branched callers fails to stack m) (chained c.file links st y n)) (sym z)
      (subst (Meets c.code (at callers fails stack m n.turns) (branched callers fails to stack m)) (sym r.1) (gives (left r.0 n.turns) tt (fails_at c.code callers stack m r.0 n.turns fails to r.2)))
  behind {links = links} {fails = fails} {mid = mid} {to = to} false y n z more go =
      subst (λ b. Meets c.code (at callers (if b then fails else mid) stack m n.turns) (branched callers fails to stack m) (chained c.file links st y n)) (sym z) (go z)

  mutual
    pub cond_runs : {e : tree.ExprTree} {fails from to : ℕ} → HasCondition c.code (tells c) e fails from to → (turns : ℕ) → Agree c (expr_notes s e) →
        Meets c.code (at callers from stack m turns) (branched callers fails to stack m) (value c.file e st turns)
    cond_runs (tested {e = e} {fails = fails} {from = from} end h is) turns agree =
        branch_on c.code callers stack m end fails is (expr_runs c callers s es st m ready e from end stack turns agree h)
    cond_runs (always {n = n} {fails = fails} {at = p}) turns agree =
        gives (left (pos (suc n)) turns) tt (holds c.code callers stack m (pos (suc n)) turns fails p (let e : ltb (suc n) 1 ≡ false = grind arith in e))
    cond_runs (in_parens h) turns agree = cond_runs h turns agree
    cond_runs (each {first = first} {links = links} {fails = fails} {mid = mid} {to = to} h more) turns agree =
        let y = type_in c.file st first in
        meets_then c.code (chained c.file links st y) refl (cond_runs h turns (agree_first c (expr_notes s first) (links_notes s links) agree))
        (λ n u. behind (is_zero n.value) y n refl more (λ z. conds_run more y n z (agree_rest c (expr_notes s first) (links_notes s links) agree)))

    conds_run : {links : tree.Links} {fails mid to : ℕ} → HaveConditions c.code (tells c) links fails mid to → (y : Bool) (n : Left ℤ) → is_zero n.value ≡ false → Agree c (links_notes s links) →
        Meets c.code (at callers mid stack m n.turns) (branched callers fails to stack m) (chained c.file links st y n)
    conds_run (no_more {fails = fails} {at = p}) y n z agree = gives n tt (holds c.code callers stack m n.value n.turns fails p z)
    conds_run (one_more {m = mark} {e = e} {rest = rest} {fails = fails} {from = from} {mid = mid} {to = to} h more) y n z agree =
        subst (λ t. Meets c.code (at callers from stack m n.turns) (branched callers fails to stack m) (and_then (if t then Ok (left (pos 0) n.turns) else and_then (value c.file e st n.turns) as_truth) (chained c.file rest st false))) (sym z)
        (meets_in c.code (at callers from stack m n.turns) (branched callers fails to stack m) (value c.file e st n.turns) as_truth (chained c.file rest st false)
        (meets_then c.code (λ b. and_then (as_truth b) (chained c.file rest st false)) refl (cond_runs h n.turns (agree_first c (expr_notes s e) (links_notes s rest) agree))
        (λ b u.
        subst (λ t. Meets c.code (at callers (if t then fails else mid) stack m b.turns) (branched callers fails to stack m) (chained c.file rest st false (left (truth (not (is_zero b.value))) b.turns))) (not_zero (is_zero b.value))
        (behind (is_zero (truth (not (is_zero b.value)))) false (left (truth (not (is_zero b.value))) b.turns) refl more
        (λ w. conds_run more false (left (truth (not (is_zero b.value))) b.turns) w (agree_rest c (expr_notes s e) (links_notes s rest) agree))))))

  -- a test, which may be left out
  pub test_runs : (test : Option tree.ExprTree) (fails from to turns : ℕ) → Agree c (value_notes s test) → HasTest c.code (tells c) test fails from to →
      Meets c.code (at callers from stack m turns) (branched callers fails to stack m) (run_test c.file test st turns)
  test_runs None fails from to turns agree h =
      gives (left (pos 1) turns) tt (subst (λ p. Leads c.code (at callers from stack m turns) (at callers p stack m turns)) h stays)
  test_runs (Some e) fails from to turns agree h = cond_runs h turns agree
