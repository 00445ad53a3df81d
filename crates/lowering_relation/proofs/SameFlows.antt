-- Statements do the same where more is in scope: one after another, in loops and in scopes of their own.
use Rattle.std.proofs.Common.{◌≡◌, ℕ, zero, suc, ◌+◌, ◌-◌, Bool, true, false, if◌then◌else◌, List, [], ◌∷◌, ◌++◌, length, drop, Ok, Err, ℤ, refl, sym, ap, ◌∙◌, subst, arith, append_assoc, length-append}
use Rattle.std.proofs.lemmas.List.{length-map, drop-append-le, map-append}
use Rattle.c_int.specs.Operators.{is_zero}
use Rattle.cddf_meaning.specs.Answers.{Answer, Left}
use Rattle.cddf_meaning.specs.Flow.{Ran, Went, Ended, Runs, with_value, goes_on, flows, loops, left_state, left_from}
use Rattle.cddf_meaning.specs.Run.{loop}
use Rattle.cddf_meaning.specs.BodyState.{BodyState}
use Rattle.cddf_meaning.specs.Variables.{leave}
use Rattle.cddf_meaning.specs.declared.ending.Ending.{Ending}
use Rattle.cddf_meaning.specs.declared.ending.Ending.TheVariants.{OverBudget}
use Rattle.cddf_meaning.specs.declared.flow.Flow.TheVariants.{GoesOn, Breaks, Continues, Returns}
use Rattle.cddf_meaning.specs.declared.variable.Binding.{Binding}
use Rattle.flow_core_laws.specs.declared.activation.Activation.{Activation}
use Rattle.os_ast.specs.declared.names.Entry.{Entry}
use Rattle.lowering_relation.specs.FoundNames.{with_more}
use Rattle.lowering_relation.proofs.Context.{Context}
use Rattle.lowering_relation.proofs.Flows.{exactly, Extends}
use Rattle.lowering_relation.proofs.SameNames.{ids, entry_ids, Matches}

-- what is left of a list behind a scope
drop_ids : (n : ℕ) (bound : List Binding) → ids (drop n bound) ≡ drop n (ids bound)
drop_ids zero bound = refl
drop_ids (suc n) [] = refl
drop_ids (suc n) (b ∷ bound) = drop_ids n bound

drop_front : {A : Type 0} (xs ys : List A) → drop (length xs) (xs ++ ys) ≡ ys
drop_front [] ys = refl
drop_front (x ∷ xs) ys = drop_front xs ys

pub leave_more : (outer inner more : List Binding) → leave (outer ++ more) (inner ++ more) ≡ leave outer inner ++ more
leave_more outer inner more =
    let a : length (outer ++ more) ≡ length outer + length more = length-append outer more in
    let b : length (inner ++ more) ≡ length inner + length more = length-append inner more in
    let n : length (inner ++ more) - length (outer ++ more) ≡ length inner - length outer = omega (arith, a, b) in
    ap (λ k. drop k (inner ++ more)) n ∙ drop-append-le (length inner - length outer) inner more (omega arith)

module _ (c : Context) (more : List Binding) where
  -- the same end, or the same state with more in scope; where it goes on or leaves a loop it has in scope what the text has
  pub data SameRan (within : List Entry → Type 0) (after : List Entry) : Ran → Ran → Type 0 where
    went : (st : BodyState) (turns : ℕ) → Matches c st.bound after → SameRan within after (Went GoesOn st turns) (Went GoesOn (with_more more st) turns)
    breaks : (st : BodyState) (turns : ℕ) (es : List Entry) → within es → Matches c st.bound es → SameRan within after (Went Breaks st turns) (Went Breaks (with_more more st) turns)
    continues : (st : BodyState) (turns : ℕ) (es : List Entry) → within es → Matches c st.bound es → SameRan within after (Went Continues st turns) (Went Continues (with_more more st) turns)
    returns : (v : ℤ) (st : BodyState) (turns : ℕ) → SameRan within after (Went (Returns v) st turns) (Went (Returns v) (with_more more st) turns)
    ended : (e : Ending) (activations : List Activation) → SameRan within after (Ended e activations) (Ended e activations)

  pub given_same : {A : Type 0} {within : List Entry → Type 0} {after : List Entry} (st : BodyState) (a b : Answer A) (f g : A → Ran) → a ≡ b → ((x : A) → a ≡ Ok x → SameRan within after (f x) (g x)) →
      SameRan within after (with_value a st f) (with_value b (with_more more st) g)
  given_same {within = within} {after = after} st a b f g e go = subst (λ y. SameRan within after (with_value a st f) (with_value y (with_more more st) g)) e (by_answer a go)
    where
      by_answer : (x : Answer _) → ((y : _) → x ≡ Ok y → SameRan within after (f y) (g y)) → SameRan within after (with_value x st f) (with_value x (with_more more st) g)
      by_answer (Ok y) go = go y refl
      by_answer (Err ending) go = ended ending st.activations

  -- what follows a statement
  pub flows_same : {r1 r2 : Ran} (inner within : List Entry → Type 0) (after1 after : List Entry) (runs other : Runs) → ((x : List Entry) → inner x → within x) → SameRan inner after1 r1 r2 →
      ((st : BodyState) (turns : ℕ) → Matches c st.bound after1 → SameRan within after (runs st turns) (other (with_more more st) turns)) → SameRan within after (flows runs r1) (flows other r2)
  flows_same inner within after1 after runs other wide (went st turns m) go = go st turns m
  flows_same inner within after1 after runs other wide (breaks st turns es i m) go = breaks st turns es (wide es i) m
  flows_same inner within after1 after runs other wide (continues st turns es i m) go = continues st turns es (wide es i) m
  flows_same inner within after1 after runs other wide (returns v st turns) go = returns v st turns
  flows_same inner within after1 after runs other wide (ended e activations) go = ended e activations

  -- behind the body of a loop
  pub loops_same : {r1 r2 : Ran} (es : List Entry) (runs other : Runs) → SameRan (exactly es) es r1 r2 →
      ((st : BodyState) (turns : ℕ) → Matches c st.bound es → SameRan (exactly es) es (runs st turns) (other (with_more more st) turns)) → SameRan (exactly es) es (loops runs r1) (loops other r2)
  loops_same es runs other (went st turns m) go = go st turns m
  loops_same es runs other (breaks st turns x i m) go = went st turns (subst (Matches c st.bound) i m)
  loops_same es runs other (continues st turns x i m) go = go st turns (subst (Matches c st.bound) i m)
  loops_same es runs other (returns v st turns) go = returns v st turns
  loops_same es runs other (ended e activations) go = ended e activations

  left_matches : (outer inner : List Binding) (x es : List Entry) → Extends x es → Matches c outer es → Matches c inner x → Matches c (leave outer inner) es
  left_matches outer inner x es (added, e) o i =
      let whole : ids inner ≡ entry_ids added ++ entry_ids (es ++ c.bound) =
      i ∙ ap (λ y. entry_ids (y ++ c.bound)) e ∙ ap entry_ids (append_assoc added es c.bound) ∙ map-append (λ (y : Entry). y.id) added (es ++ c.bound) in
      let a : length (ids inner) ≡ length inner = length-map inner (λ (b : Binding). b.id) in
      let b : length (ids outer) ≡ length outer = length-map outer (λ (b : Binding). b.id) in
      let p : length (ids outer) ≡ length (entry_ids (es ++ c.bound)) = ap length o in
      let q : length (ids inner) ≡ length (entry_ids added) + length (entry_ids (es ++ c.bound)) = ap length whole ∙ length-append (entry_ids added) (entry_ids (es ++ c.bound)) in
      let n : length inner - length outer ≡ length (entry_ids added) = omega (arith, a, b, p, q) in
      drop_ids (length inner - length outer) inner ∙ ap (λ k. drop k (ids inner)) n ∙ ap (drop (length (entry_ids added))) whole ∙ drop_front (entry_ids added) (entry_ids (es ++ c.bound))

  left_more : (outer inner : BodyState) → left_state (with_more more outer) (with_more more inner) ≡ with_more more (left_state outer inner)
  left_more outer inner = ap (λ bound. record inner { bound = bound }) (leave_more outer.bound inner.bound more)

  -- a scope of its own
  pub scope_same : {r1 r2 : Ran} (outer : BodyState) (inner : List Entry → Type 0) (after es : List Entry) → ((x : List Entry) → inner x → Extends x es) → Extends after es → Matches c outer.bound es → SameRan inner after r1 r2 →
      SameRan (exactly es) es (left_from outer r1) (left_from (with_more more outer) r2)
  scope_same outer inner after es wide ext o (went st turns m) =
      subst (λ x. SameRan (exactly es) es (Went GoesOn (left_state outer st) turns) (Went GoesOn x turns)) (sym (left_more outer st)) (went (left_state outer st) turns (left_matches outer.bound st.bound after es ext o m))
  scope_same outer inner after es wide ext o (breaks st turns x i m) =
      subst (λ y. SameRan (exactly es) es (Went Breaks (left_state outer st) turns) (Went Breaks y turns)) (sym (left_more outer st)) (breaks (left_state outer st) turns es refl (left_matches outer.bound st.bound x es (wide x i) o m))
  scope_same outer inner after es wide ext o (continues st turns x i m) =
      subst (λ y. SameRan (exactly es) es (Went Continues (left_state outer st) turns) (Went Continues y turns)) (sym (left_more outer st)) (continues (left_state outer st) turns es refl (left_matches outer.bound st.bound x es (wide x i) o m))
  scope_same outer inner after es wide ext o (returns v st turns) =
      subst (λ y. SameRan (exactly es) es (Went (Returns v) (left_state outer st) turns) (Went (Returns v) y turns)) (sym (left_more outer st)) (returns v (left_state outer st) turns)
  scope_same outer inner after es wide ext o (ended e activations) = ended e activations

  by_branch : (t : Bool) {within : List Entry → Type 0} {after : List Entry} {a b x y : Ran} → SameRan within after a x → SameRan within after b y → SameRan within after (if t then a else b) (if t then x else y)
  by_branch true h k = h
  by_branch false h k = k

  -- behind a condition
  pub branch_same : (v : ℤ) {within : List Entry → Type 0} {after : List Entry} {a b x y : Ran} → SameRan within after a x → SameRan within after b y → SameRan within after (if is_zero v then a else b) (if is_zero v then x else y)
  branch_same v h k = by_branch (is_zero v) h k

  pub loop_same : (most : ℕ) (test : BodyState → ℕ → Answer (Left ℤ)) (body step : Runs) (es : List Entry) →
      ((st : BodyState) (turns : ℕ) → Matches c st.bound es → test st turns ≡ test (with_more more st) turns) →
      ((st : BodyState) (turns : ℕ) → Matches c st.bound es → SameRan (exactly es) es (body st turns) (body (with_more more st) turns)) →
      ((st : BodyState) (turns : ℕ) → Matches c st.bound es → SameRan (exactly es) es (step st turns) (step (with_more more st) turns)) →
      (st : BodyState) (turns : ℕ) → Matches c st.bound es → SameRan (exactly es) es (loop most test body step st turns) (loop most test body step (with_more more st) turns)
  loop_same most test body step es tests bodies steps st zero m = ended OverBudget st.activations
  loop_same zero test body step es tests bodies steps st (suc turns) m = ended OverBudget st.activations
  loop_same (suc most) test body step es tests bodies steps st (suc turns) m =
      let next : Runs = λ s t. flows (loop most test body step) (step s t) in
      given_same st (test st turns) (test (with_more more st) turns) (λ n. if is_zero n.value then goes_on st n.turns else loops next (body st n.turns))
      (λ n. if is_zero n.value then goes_on (with_more more st) n.turns else loops next (body (with_more more st) n.turns)) (tests st turns m)
      (λ n e. branch_same n.value (went st n.turns m)
      (loops_same es next next (bodies st n.turns m)
      (λ st2 t2 m2. flows_same (exactly es) (exactly es) es es (loop most test body step) (loop most test body step) (λ x i. i) (steps st2 t2 m2)
      (λ st3 t3 m3. loop_same most test body step es tests bodies steps st3 t3 m3))))
