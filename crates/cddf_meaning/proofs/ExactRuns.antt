-- A statement spends its turns exactly.
use Rattle.std.proofs.Common.{◌≡◌, ℕ, zero, suc, ◌+◌, ◌-◌, ◌≤◌, ◌<◌, ◌⊎◌, inl, inr, Bool, true, false, if◌then◌else◌, List, [], ◌∷◌, length, replicate, Option, Some, None, Ok, Err, ℤ, pos, arith, refl, ap, sym, subst, ◌∙◌}
use Rattle.std.proofs.lemmas.Bool.{cases_lt}
use Rattle.c_int.specs.Operators.{is_zero}
use Rattle.c_int.specs.declared.control_limit.ControlLimit.{ControlLimit}
use Rattle.cddf_meaning.specs.Answers.{Answer, Left, and_then, left, with_turns, over}
use Rattle.cddf_meaning.specs.Claims.{limit}
use Rattle.cddf_meaning.specs.Exact.{Spends, IsExact, SpendsIn, RunsExactly}
use Rattle.cddf_meaning.specs.File.{File, variable, type_in}
use Rattle.cddf_meaning.specs.Flow.{Ran, Went, Ended, Runs, with_value, goes_on, flows, loops, left_from, left_state}
use Rattle.cddf_meaning.specs.Moves.{Falls, CallsFall, Keeps}
use Rattle.cddf_meaning.specs.Operators.{binary_answer, step_operator}
use Rattle.cddf_meaning.specs.Run.{Around, loop, assigned, aim_at, old_value, after_store, changed, run_change, run_scalar, run_array, run_window, window_size, with_streams, run_streams, run_unsized_or, run_declarator, run_declarators, run_start, run_test, run_step, run, run_all, array_size, target_type}
use Rattle.cddf_meaning.specs.BodyState.{BodyState, declared, stored}
use Rattle.cddf_meaning.specs.Streams.{stream_number, first_stream, stream_count, cursor_move, burst, burst_of, joined, item_claim, items_claims, claim_of, horizon_of, run_task, run_tick, tick_turn, moved, unless_limited, with_activation, captured_by, task_number}
use Rattle.cddf_meaning.specs.Value.{value, values, checked, elements, call_value}
use Rattle.cddf_meaning.specs.Variables.{find}
use Rattle.cddf_meaning.specs.declared.aim.Aim.{Aim}
use Rattle.cddf_meaning.specs.declared.aim.Aim.TheVariants.{Name, Element}
use Rattle.cddf_meaning.specs.declared.ending.Ending.TheVariants.{OverBudget}
use Rattle.cddf_meaning.specs.declared.flow.Flow.{Flow}
use Rattle.cddf_meaning.specs.declared.flow.Flow.TheVariants.{GoesOn, Breaks, Continues, Returns}
use Rattle.cddf_meaning.specs.declared.site.Site.{Site}
use Rattle.cddf_meaning.specs.declared.variable.Variable.TheVariants.{Scalar, Array, Window}
use Rattle.flow_core_laws.specs.declared.activation.Activation.{Activation}
use Rattle.flow_core_laws.specs.declared.claim.Claim.{Claim}
use Rattle.os_ast.specs.ClauseMembers as clause
use Rattle.os_ast.specs.ClauseMembers.{members}
use Rattle.os_ast.specs.Trees as tree
use Rattle.os_ast.specs.declared.expr.Mark.{Mark}
use Rattle.os_ast.specs.declared.names.Direction.{Direction}
use Rattle.cddf_meaning.proofs.Enough.{with_value-same, if-same, flows-same, loops-same, loop-enough}
use Rattle.cddf_meaning.proofs.Falls.{value-falls}
use Rattle.cddf_meaning.proofs.Keeps.{keeps-on, test-falls, step-keeps, run-keeps}
use Rattle.cddf_meaning.proofs.Exact.{CallsExact, stays-always, stays-made, stays-behind, exact-here, exact-with, exact-then, value-exact, values-exact, call-exact}
use Rattle.os_ast.specs.Unsigned.{is_unsigned}

-- what a statement comes to where it is over budget
abbrev IsOver : Ran → Type 0
IsOver r = (made : List Activation) × (r ≡ Ended OverBudget made)

-- nothing is spent where a state is left at once
went-exact : (flow : Flow) (s : BodyState) (turns : ℕ) → RunsExactly (λ t. Went flow s t) turns (Went flow s turns)
went-exact flow s turns = record {
  spent = 0;
  all = omega arith;
  enough = λ more. let is : 0 + more ≡ more = omega arith in ap (λ k. Went flow s k) is;
  fewer = λ less h. absurd (omega (arith, h));
}

runs-if : (t : Bool) (f g : ℕ → Ran) (turns : ℕ) → RunsExactly f turns (f turns) → RunsExactly g turns (g turns) →
    RunsExactly (λ k. if t then f k else g k) turns (if t then f turns else g turns)
runs-if true f g turns a b = a
runs-if false f g turns a b = b

-- an answer, and what follows it
with_value-enough : {A : Type 0} (f : ℕ → Answer (Left A)) (s : BodyState) (next : Left A → Ran) (a b more : ℕ) (v : A) (flow : Flow) (t : BodyState) →
    f (a + (b + more)) ≡ Ok (left v (b + more)) → next (left v (b + more)) ≡ Went flow t more →
    with_value (f (a + b + more)) s next ≡ Went flow t more
with_value-enough f s next a b more v flow t first second =
    let sums : a + b + more ≡ a + (b + more) = omega arith in
    ap (λ k. with_value (f k) s next) sums ∙ (ap (λ x. with_value x s next) first ∙ second)

with_value-fewer : {A : Type 0} (f : ℕ → Answer (Left A)) (s : BodyState) (next : Left A → Ran) (a b less : ℕ) (v : A) →
    ((k : ℕ) → f (a + k) ≡ Ok (left v k)) → ((k : ℕ) → k < a → f k ≡ over) → ((k : ℕ) → k < b → IsOver (next (left v k))) →
    less < a + b → (less < a) ⊎ (a ≤ less) → IsOver (with_value (f less) s next)
with_value-fewer f s next a b less v enough fewer behind h (inl lt) = (s.activations, ap (λ x. with_value x s next) (fewer less lt))
with_value-fewer f s next a b less v enough fewer behind h (inr ge) =
    let sums : less ≡ a + (less - a) = omega (arith, ge) in
    let (made, is) = behind (less - a) (omega (arith, h, ge)) in
    (made, ap (λ k. with_value (f k) s next) sums ∙ (ap (λ x. with_value x s next) (enough (less - a)) ∙ is))

with_value-behind : {A : Type 0} (f : ℕ → Answer (Left A)) (s : BodyState) (next : Left A → Ran) (turns : ℕ) (n : Left A) →
    Spends A f turns n → (b : Ran) → RunsExactly (λ t. next (left n.value t)) n.turns b → RunsExactly (λ t. with_value (f t) s next) turns b
with_value-behind f s next turns n e (Ended ending made) r =
    stays-behind (λ t. with_value (f t) s next) (λ t. next (left n.value t)) turns e.spent n.turns ending (Ended ending made) e.all
    (λ k. ap (λ x. with_value x s next) (e.enough k)) r
with_value-behind f s next turns n e (Went flow t rest) r = record {
  spent = e.spent + r.spent;
  all = omega (arith, e.all, r.all);
  enough = λ more. with_value-enough f s next e.spent r.spent more n.value flow t (e.enough (r.spent + more)) (r.enough more);
  fewer = λ less h. with_value-fewer f s next e.spent r.spent less n.value e.enough e.fewer r.fewer h (cases_lt less e.spent);
}

with_value-exact : {A : Type 0} (f : ℕ → Answer (Left A)) (s : BodyState) (next : Left A → Ran) (turns : ℕ) (a : Answer (Left A)) → IsExact A f turns a →
    ((n : Left A) → n.turns ≤ turns → RunsExactly (λ t. next (left n.value t)) n.turns (next n)) → RunsExactly (λ t. with_value (f t) s next) turns (with_value a s next)
with_value-exact f s next turns (Err ending) e rest = stays-made (λ x. with_value x s next) f turns ending (Err ending) (Ended ending s.activations) refl e
with_value-exact f s next turns (Ok n) e rest = with_value-behind f s next turns n e (next n) (rest n (omega (arith, e.all)))

with_value-plain : {A : Type 0} (a : Answer A) (s : BodyState) (next : A → ℕ → Ran) (turns : ℕ) → ((v : A) → RunsExactly (next v) turns (next v turns)) →
    RunsExactly (λ t. with_value a s (λ v. next v t)) turns (with_value a s (λ v. next v turns))
with_value-plain (Err ending) s next turns rest = stays-always _ turns ending (Ended ending s.activations) (λ k. refl)
with_value-plain (Ok v) s next turns rest = rest v

-- a statement, and what follows it: `join` is `flows` or `loops`, where it goes on in a way
joined-enough : (join : Ran → Ran) (f : ℕ → Ran) (next : ℕ → Ran) (a b more : ℕ) (first last : Flow) (s t : BodyState) →
    ((k : ℕ) → join (Went first s k) ≡ next k) → f (a + (b + more)) ≡ Went first s (b + more) → next (b + more) ≡ Went last t more →
    join (f (a + b + more)) ≡ Went last t more
joined-enough join f next a b more first last s t goes one two =
    let sums : a + b + more ≡ a + (b + more) = omega arith in
    ap (λ k. join (f k)) sums ∙ (ap join one ∙ (goes (b + more) ∙ two))

joined-fewer : (join : Ran → Ran) (f : ℕ → Ran) (next : ℕ → Ran) (a b less : ℕ) (first : Flow) (s : BodyState) →
    ((k : ℕ) → join (Went first s k) ≡ next k) → ((made : List Activation) → join (Ended OverBudget made) ≡ Ended OverBudget made) →
    ((k : ℕ) → f (a + k) ≡ Went first s k) → ((k : ℕ) → k < a → IsOver (f k)) → ((k : ℕ) → k < b → IsOver (next k)) →
    less < a + b → (less < a) ⊎ (a ≤ less) → IsOver (join (f less))
joined-fewer join f next a b less first s goes ends enough fewer behind h (inl lt) =
    let (made, is) = fewer less lt in
    (made, ap join is ∙ ends made)
joined-fewer join f next a b less first s goes ends enough fewer behind h (inr ge) =
    let sums : less ≡ a + (less - a) = omega (arith, ge) in
    let (made, is) = behind (less - a) (omega (arith, h, ge)) in
    (made, ap (λ k. join (f k)) sums ∙ (ap join (enough (less - a)) ∙ (goes (less - a) ∙ is)))

joined-behind : (join : Ran → Ran) (f : ℕ → Ran) (next : ℕ → Ran) (turns rest : ℕ) (first : Flow) (s : BodyState) →
    ((k : ℕ) → join (Went first s k) ≡ next k) → ((made : List Activation) → join (Ended OverBudget made) ≡ Ended OverBudget made) →
    SpendsIn f turns first s rest → (b : Ran) → RunsExactly next rest b → RunsExactly (λ t. join (f t)) turns b
joined-behind join f next turns rest first s goes ends e (Ended ending made) r =
    stays-behind (λ t. join (f t)) next turns e.spent rest ending (Ended ending made) e.all (λ k. ap join (e.enough k) ∙ goes k) r
joined-behind join f next turns rest first s goes ends e (Went last t left) r = record {
  spent = e.spent + r.spent;
  all = omega (arith, e.all, r.all);
  enough = λ more. joined-enough join f next e.spent r.spent more first last s t goes (e.enough (r.spent + more)) (r.enough more);
  fewer = λ less h. joined-fewer join f next e.spent r.spent less first s goes ends e.enough e.fewer r.fewer h (cases_lt less e.spent);
}

-- nothing follows: `join` changes at most the flow and the state
ended-exact : (join : Ran → Ran) (f : ℕ → Ran) (turns rest : ℕ) (first last : Flow) (s t : BodyState) →
    ((k : ℕ) → join (Went first s k) ≡ Went last t k) → ((made : List Activation) → join (Ended OverBudget made) ≡ Ended OverBudget made) →
    SpendsIn f turns first s rest → RunsExactly (λ k. join (f k)) turns (Went last t rest)
ended-exact join f turns rest first last s t goes ends e =
    joined-behind join f (λ k. Went last t k) turns rest first s goes ends e (Went last t rest) (went-exact last t rest)

flows-exact : (next : Runs) (f : ℕ → Ran) (turns : ℕ) (r : Ran) → RunsExactly f turns r →
    ((s : BodyState) (left : ℕ) → left ≤ turns → RunsExactly (next s) left (next s left)) → RunsExactly (λ t. flows next (f t)) turns (flows next r)
flows-exact next f turns (Ended ending made) e rest = stays-made (flows next) f turns ending (Ended ending made) (Ended ending made) refl e
flows-exact next f turns (Went GoesOn s left) e rest =
    joined-behind (flows next) f (next s) turns left GoesOn s (λ k. refl) (λ made. refl) e (next s left) (rest s left (omega (arith, e.all)))
flows-exact next f turns (Went Breaks s left) e rest = ended-exact (flows next) f turns left Breaks Breaks s s (λ k. refl) (λ made. refl) e
flows-exact next f turns (Went Continues s left) e rest = ended-exact (flows next) f turns left Continues Continues s s (λ k. refl) (λ made. refl) e
flows-exact next f turns (Went (Returns v) s left) e rest = ended-exact (flows next) f turns left (Returns v) (Returns v) s s (λ k. refl) (λ made. refl) e

loops-exact : (next : Runs) (f : ℕ → Ran) (turns : ℕ) (r : Ran) → RunsExactly f turns r →
    ((s : BodyState) (left : ℕ) → left ≤ turns → RunsExactly (next s) left (next s left)) → RunsExactly (λ t. loops next (f t)) turns (loops next r)
loops-exact next f turns (Ended ending made) e rest = stays-made (loops next) f turns ending (Ended ending made) (Ended ending made) refl e
loops-exact next f turns (Went GoesOn s left) e rest =
    joined-behind (loops next) f (next s) turns left GoesOn s (λ k. refl) (λ made. refl) e (next s left) (rest s left (omega (arith, e.all)))
loops-exact next f turns (Went Breaks s left) e rest = ended-exact (loops next) f turns left Breaks GoesOn s s (λ k. refl) (λ made. refl) e
loops-exact next f turns (Went Continues s left) e rest =
    joined-behind (loops next) f (next s) turns left Continues s (λ k. refl) (λ made. refl) e (next s left) (rest s left (omega (arith, e.all)))
loops-exact next f turns (Went (Returns v) s left) e rest = ended-exact (loops next) f turns left (Returns v) (Returns v) s s (λ k. refl) (λ made. refl) e

left-exact : (outer : BodyState) (f : ℕ → Ran) (turns : ℕ) (r : Ran) → RunsExactly f turns r → RunsExactly (λ t. left_from outer (f t)) turns (left_from outer r)
left-exact outer f turns (Ended ending made) e = stays-made (left_from outer) f turns ending (Ended ending made) (Ended ending made) refl e
left-exact outer f turns (Went flow s left) e =
    ended-exact (left_from outer) f turns left flow flow s (left_state outer s) (λ k. refl) (λ made. refl) e

-- what spends one turn more
one-more : (f g : ℕ → Ran) (turns : ℕ) (r : Ran) → ((made : List Activation) × (f zero ≡ Ended OverBudget made)) → ((k : ℕ) → f (suc k) ≡ g k) →
    RunsExactly g turns r → RunsExactly f (suc turns) r
one-more f g turns (Ended ending made) first more e =
    stays-behind f g (suc turns) 1 turns ending (Ended ending made) (omega arith) (λ k. let is : 1 + k ≡ suc k = omega arith in ap f is ∙ more k) e
one-more f g turns (Went flow s left) first more e = record {
  spent = suc e.spent;
  all = omega (arith, e.all);
  enough = λ k. let is : suc e.spent + k ≡ suc (e.spent + k) = omega arith in ap f is ∙ (more (e.spent + k) ∙ e.enough k);
  fewer = fewer-one;
}
  where
    fewer-one : (less : ℕ) → less < suc e.spent → IsOver (f less)
    fewer-one zero h = first
    fewer-one (suc less) h = let (made, is) = e.fewer less (omega (arith, h)) in (made, more less ∙ is)

-- A loop takes as many turns as it has, for every count that is as large as these: so a loop with its turns as count is one step of it, and then one
-- with the turns that are left.
abbrev again : (test : BodyState → ℕ → Answer (Left ℤ)) (body step : Runs) → Runs
again test body step s turns = loop turns test body step s turns

abbrev turn-of : (test : BodyState → ℕ → Answer (Left ℤ)) (body step : Runs) → Runs
turn-of test body step s turns =
    with_value (test s turns) s
    (λ n. if is_zero n.value then goes_on s n.turns
    else loops (λ s turns. flows (again test body step) (step s turns)) (body s n.turns))

loop-turn : (test : BodyState → ℕ → Answer (Left ℤ)) (body step : Runs) → ((s : BodyState) (turns : ℕ) → Falls turns (test s turns)) →
    ((s : BodyState) (turns : ℕ) → Keeps s turns (body s turns)) → ((s : BodyState) (turns : ℕ) → Keeps s turns (step s turns)) →
    (s : BodyState) (turns : ℕ) → again test body step s (suc turns) ≡ turn-of test body step s turns
loop-turn test body step ft kb ks s turns =
    let f : Runs = λ s left. flows (loop turns test body step) (step s left) in
    let g : Runs = λ s left. flows (again test body step) (step s left) in
    with_value-same s turns (test s turns) (λ n. if is_zero n.value then goes_on s n.turns else loops f (body s n.turns))
    (λ n. if is_zero n.value then goes_on s n.turns else loops g (body s n.turns)) (ft s turns)
    (λ n h. if-same (is_zero n.value) (goes_on s n.turns) (loops f (body s n.turns)) (loops g (body s n.turns))
    (loops-same s n.turns f g (body s n.turns) (kb s n.turns)
    (λ t left k. flows-same t left (loop turns test body step) (again test body step) (step t left) (ks t left)
    (λ u rest j. loop-enough turns rest test body step ft kb ks u rest (omega (arith, h, k, j)) (omega arith)))))

loop-exact : (test : BodyState → ℕ → Answer (Left ℤ)) (body step : Runs) → ((s : BodyState) (turns : ℕ) → Falls turns (test s turns)) →
    ((s : BodyState) (turns : ℕ) → Keeps s turns (body s turns)) → ((s : BodyState) (turns : ℕ) → Keeps s turns (step s turns)) →
    ((s : BodyState) (turns : ℕ) → IsExact ℤ (test s) turns (test s turns)) →
    ((s : BodyState) (turns : ℕ) → RunsExactly (body s) turns (body s turns)) →
    ((s : BodyState) (turns : ℕ) → RunsExactly (step s) turns (step s turns)) →
    (bound : ℕ) (s : BodyState) (turns : ℕ) → turns ≤ bound → RunsExactly (again test body step s) turns (again test body step s turns)
loop-exact test body step ft kb ks et eb es bound s zero h = tt
loop-exact test body step ft kb ks et eb es zero s (suc turns) h = absurd (omega (arith, h))
loop-exact test body step ft kb ks et eb es (suc bound) s (suc turns) h =
    let next : Runs = λ s left. flows (again test body step) (step s left) in
    let turn : RunsExactly (turn-of test body step s) turns (turn-of test body step s turns) =
    with_value-exact (test s) s (λ n. if is_zero n.value then goes_on s n.turns else loops next (body s n.turns)) turns (test s turns) (et s turns)
    (λ n i. runs-if (is_zero n.value) (goes_on s) (λ left. loops next (body s left)) n.turns (went-exact GoesOn s n.turns)
    (loops-exact next (body s) n.turns (body s n.turns) (eb s n.turns)
    (λ t left j. flows-exact (again test body step) (step t) left (step t left) (es t left)
    (λ u rest k. loop-exact test body step ft kb ks et eb es bound u rest (omega (arith, h, i, j, k)))))) in
    subst (RunsExactly (again test body step s) (suc turns)) (sym (loop-turn test body step ft kb ks s turns))
    (one-more (again test body step s) (turn-of test body step s) turns (turn-of test body step s turns) (s.activations, refl)
    (loop-turn test body step ft kb ks s) turn)

-- an answer that needs no turn, and what is made of it
mapped-exact : {A B : Type 0} (a : Answer A) (f : A → B) (turns : ℕ) →
    IsExact B (λ t. and_then a (λ v. Ok (left (f v) t))) turns (and_then a (λ v. Ok (left (f v) turns)))
mapped-exact (Err ending) f turns = stays-always _ turns ending (Err ending) (λ k. refl)
mapped-exact (Ok v) f turns = exact-here (f v) turns

aim-exact : (file : File) → CallsExact file → (t : tree.TargetTree) (s : BodyState) (turns : ℕ) → IsExact Aim (aim_at file t s) turns (aim_at file t s turns)
aim-exact file calls (tree.Variable n) s turns = exact-here (Name n.id) turns
aim-exact file calls (tree.Element n m e) s turns =
    exact-then (value file e s)
    (λ i. and_then (checked (length (elements s (find s.bound n.id))) m.line i.value) (λ k. Ok (left (Element n.id k) i.turns))) turns (value file e s turns)
    (value-exact file calls e s turns)
    (λ i. mapped-exact (checked (length (elements s (find s.bound n.id))) m.line i.value) (Element n.id) i.turns)

changed-exact : (file : File) → CallsExact file → (t : tree.TargetTree) (right : ℤ → BodyState → ℕ → Answer (Left ℤ)) →
    ((old : ℤ) (s : BodyState) (turns : ℕ) → IsExact ℤ (right old s) turns (right old s turns)) → (s : BodyState) (turns : ℕ) →
    RunsExactly (changed file t right s) turns (changed file t right s turns)
changed-exact file calls t right e s turns =
    with_value-exact (aim_at file t s) s
    (λ a. with_value (right (old_value file s a.value) s a.turns) s (λ v. goes_on (after_store s a.value v.value) v.turns)) turns (aim_at file t s turns)
    (aim-exact file calls t s turns)
    (λ a i. with_value-exact (right (old_value file s a.value) s) s (λ v. goes_on (after_store s a.value v.value) v.turns) a.turns
    (right (old_value file s a.value) s a.turns) (e (old_value file s a.value) s a.turns)
    (λ v j. went-exact GoesOn (after_store s a.value v.value) v.turns))

change-exact : (file : File) → CallsExact file → (c : tree.ChangeTree) (s : BodyState) (turns : ℕ) →
    RunsExactly (run_change file c s) turns (run_change file c s turns)
change-exact file calls (tree.Set t a m e) s turns =
    changed-exact file calls t
    (λ old s turns. and_then (value file e s turns) (λ n. with_turns n.turns (assigned a m.line (target_type file s t) (type_in file s e) old n.value)))
    (λ old s turns. exact-then (value file e s) (λ n. with_turns n.turns (assigned a m.line (target_type file s t) (type_in file s e) old n.value)) turns (value file e s turns)
    (value-exact file calls e s turns) (λ n. exact-with (assigned a m.line (target_type file s t) (type_in file s e) old n.value) n.turns))
    s turns
change-exact file calls (tree.After t p m) s turns =
    changed-exact file calls t (λ old s turns. with_turns turns (binary_answer (step_operator p) m.line (target_type file s t) false old (pos 1)))
    (λ old s turns. exact-with (binary_answer (step_operator p) m.line (target_type file s t) false old (pos 1)) turns) s turns
change-exact file calls (tree.Before t p m) s turns =
    changed-exact file calls t (λ old s turns. with_turns turns (binary_answer (step_operator p) m.line (target_type file s t) false old (pos 1)))
    (λ old s turns. exact-with (binary_answer (step_operator p) m.line (target_type file s t) false old (pos 1)) turns) s turns

valued-exact : (file : File) → CallsExact file → (e : tree.ExprTree) (s : BodyState) (turns : ℕ) (next : Left ℤ → Ran) →
    ((n : Left ℤ) → RunsExactly (λ t. next (left n.value t)) n.turns (next n)) →
    RunsExactly (λ t. with_value (value file e s t) s next) turns (with_value (value file e s turns) s next)
valued-exact file calls e s turns next k =
    with_value-exact (value file e s) s next turns (value file e s turns) (value-exact file calls e s turns) (λ n i. k n)

scalar-exact : (file : File) → CallsExact file → (w : Bool) (id : ℕ) (first : Option tree.ExprTree) (s : BodyState) (turns : ℕ) →
    RunsExactly (run_scalar file w id first s) turns (run_scalar file w id first s turns)
scalar-exact file calls w id None s turns = went-exact GoesOn (declared id w (Scalar (pos 0)) s) turns
scalar-exact file calls w id (Some e) s turns =
    let inner = declared id w (Scalar (pos 0)) s in
    valued-exact file calls e inner turns (λ n. goes_on (stored inner id n.value) n.turns) (λ n. went-exact GoesOn (stored inner id n.value) n.turns)

either-exact : (t : Bool) (a b : Runs) → ((s : BodyState) (turns : ℕ) → RunsExactly (a s) turns (a s turns)) →
    ((s : BodyState) (turns : ℕ) → RunsExactly (b s) turns (b s turns)) → (s : BodyState) (turns : ℕ) →
    RunsExactly ((if t then a else b) s) turns ((if t then a else b) s turns)
either-exact true a b f g s turns = f s turns
either-exact false a b f g s turns = g s turns

streams-exact : (file : File) → CallsExact file → (w : Bool) (id : ℕ) (size : Option tree.IndexTree) (s : BodyState) (turns : ℕ) →
    RunsExactly (run_streams file w id size s) turns (run_streams file w id size s turns)
streams-exact file calls w id None s turns = went-exact GoesOn (with_streams id w 1 s) turns
streams-exact file calls w id (Some i) s turns =
    valued-exact file calls i.value s turns (λ n. goes_on (with_streams id w (array_size n.value) s) n.turns)
    (λ n. went-exact GoesOn (with_streams id w (array_size n.value) s) n.turns)

window-exact : (file : File) → CallsExact file → (w : Bool) (id : ℕ) (i : tree.IndexTree) (s : BodyState) (turns : ℕ) →
    RunsExactly (run_window file w id i s) turns (run_window file w id i s turns)
window-exact file calls w id i s turns =
    valued-exact file calls i.value s turns
    (λ n. with_value (window_size i.mark.line n.value) s (λ horizon. goes_on (declared id w (Window horizon) s) n.turns))
    (λ n. with_value-plain (window_size i.mark.line n.value) s (λ horizon. goes_on (declared id w (Window horizon) s)) n.turns
    (λ horizon. went-exact GoesOn (declared id w (Window horizon) s) n.turns))

array-exact : (file : File) → CallsExact file → (w : Bool) (id : ℕ) (size : tree.ExprTree) (s : BodyState) (turns : ℕ) →
    RunsExactly (run_array file w id size s) turns (run_array file w id size s turns)
array-exact file calls w id size s turns =
    valued-exact file calls size s turns (λ n. goes_on (declared id w (Array (replicate (array_size n.value) (pos 0))) s) n.turns)
    (λ n. went-exact GoesOn (declared id w (Array (replicate (array_size n.value) (pos 0))) s) n.turns)

unsized-exact : (u : Around) → CallsExact u.file → (w : Bool) (d : tree.DeclaratorTree) (size : Option tree.IndexTree) (s : BodyState) (turns : ℕ) →
    RunsExactly (run_unsized_or u w d size s) turns (run_unsized_or u w d size s turns)
unsized-exact u calls w d None s turns = scalar-exact u.file calls w d.name.id d.first s turns
unsized-exact u calls w d (Some i) s turns =
    either-exact u.is_control (run_window u.file w d.name.id i) (run_array u.file w d.name.id i.value)
    (window-exact u.file calls w d.name.id i) (array-exact u.file calls w d.name.id i.value) s turns

declarator-exact : (u : Around) → CallsExact u.file → (w : Bool) (d : tree.DeclaratorTree) (s : BodyState) (turns : ℕ) →
    RunsExactly (run_declarator u w d s) turns (run_declarator u w d s turns)
declarator-exact u calls w d s turns =
    either-exact d.stream (run_streams u.file w d.name.id d.size) (run_unsized_or u w d d.size)
    (streams-exact u.file calls w d.name.id d.size) (unsized-exact u calls w d d.size) s turns

declarators-exact : (u : Around) → CallsExact u.file → (w : Bool) (ds : List tree.DeclaratorTree) (s : BodyState) (turns : ℕ) →
    RunsExactly (run_declarators u w ds s) turns (run_declarators u w ds s turns)
declarators-exact u calls w [] s turns = went-exact GoesOn s turns
declarators-exact u calls w (d ∷ ds) s turns =
    flows-exact (run_declarators u w ds) (run_declarator u w d s) turns (run_declarator u w d s turns) (declarator-exact u calls w d s turns)
    (λ t left i. declarators-exact u calls w ds t left)

start-exact : (u : Around) → CallsExact u.file → (start : tree.StartTree) (s : BodyState) (turns : ℕ) →
    RunsExactly (run_start u start s) turns (run_start u start s turns)
start-exact u calls tree.StartTree.Empty s turns = went-exact GoesOn s turns
start-exact u calls (tree.StartTree.Declare ty ds) s turns = declarators-exact u calls (is_unsigned ty) ds s turns
start-exact u calls (tree.StartTree.Change c) s turns = change-exact u.file calls c s turns

test-exact : (file : File) → CallsExact file → (test : Option tree.ExprTree) (s : BodyState) (turns : ℕ) →
    IsExact ℤ (run_test file test s) turns (run_test file test s turns)
test-exact file calls None s turns = exact-here (pos 1) turns
test-exact file calls (Some e) s turns = value-exact file calls e s turns

step-exact : (file : File) → CallsExact file → (step : Option tree.ChangeTree) (s : BodyState) (turns : ℕ) →
    RunsExactly (run_step file step s) turns (run_step file step s turns)
step-exact file calls None s turns = went-exact GoesOn s turns
step-exact file calls (Some c) s turns = change-exact file calls c s turns

number-exact : (file : File) → CallsExact file → (t : tree.TargetTree) (s : BodyState) (turns : ℕ) →
    IsExact ℕ (stream_number file t s) turns (stream_number file t s turns)
number-exact file calls (tree.Variable n) s turns = exact-here (first_stream (find s.bound n.id)) turns
number-exact file calls (tree.Element n m e) s turns =
    exact-then (value file e s)
    (λ i. and_then (checked (stream_count (find s.bound n.id)) m.line i.value) (λ k. Ok (left (first_stream (find s.bound n.id) + k) i.turns))) turns
    (value file e s turns) (value-exact file calls e s turns)
    (λ i. mapped-exact (checked (stream_count (find s.bound n.id)) m.line i.value) (λ k. first_stream (find s.bound n.id) + k) i.turns)

burst-exact : (file : File) → CallsExact file → (d : Direction) (horizon : ℕ) (i : Option tree.IndexTree) (s : BodyState) (turns : ℕ) →
    IsExact ℕ (burst file d horizon i s) turns (burst file d horizon i s turns)
burst-exact file calls d horizon None s turns = exact-here 1 turns
burst-exact file calls d horizon (Some i) s turns =
    exact-then (value file i.value s) (λ n. with_turns n.turns (burst_of d i.mark.line horizon n.value)) turns (value file i.value s turns)
    (value-exact file calls i.value s turns) (λ n. exact-with (burst_of d i.mark.line horizon n.value) n.turns)

joined-exact : (file : File) → CallsExact file → (d : Direction) (stream : ℕ) (j : Option tree.JoinTree) (s : BodyState) (turns : ℕ) →
    IsExact Claim (joined file d stream j s) turns (joined file d stream j s turns)
joined-exact file calls d stream None s turns = exact-here (claim_of d stream 1 1) turns
joined-exact file calls d stream (Some j) s turns =
    let horizon = horizon_of (find s.bound j.name.id) in
    exact-then (burst file d horizon j.burst s) (λ b. Ok (left (claim_of d stream horizon b.value) b.turns)) turns (burst file d horizon j.burst s turns)
    (burst-exact file calls d horizon j.burst s turns) (λ b. exact-here (claim_of d stream horizon b.value) b.turns)

item-exact : (file : File) → CallsExact file → (d : Direction) (i : tree.ClauseItemTree) (s : BodyState) (turns : ℕ) →
    IsExact Claim (item_claim file d i s) turns (item_claim file d i s turns)
item-exact file calls d i s turns =
    exact-then (stream_number file i.stream s) (λ n. joined file d n.value i.window s n.turns) turns (stream_number file i.stream s turns)
    (number-exact file calls i.stream s turns) (λ n. joined-exact file calls d n.value i.window s n.turns)

items-exact : (file : File) → CallsExact file → (ps : List clause.ClauseMember) (s : BodyState) (turns : ℕ) →
    IsExact (List Claim) (items_claims file ps s) turns (items_claims file ps s turns)
items-exact file calls [] s turns = exact-here [] turns
items-exact file calls (clause.Private n ∷ ps) s turns = items-exact file calls ps s turns
items-exact file calls (clause.Item d i ∷ ps) s turns =
    exact-then (item_claim file d i s)
    (λ c. and_then (items_claims file ps s c.turns) (λ cs. Ok (left (c.value ∷ cs.value) cs.turns))) turns (item_claim file d i s turns)
    (item-exact file calls d i s turns)
    (λ c. exact-then (items_claims file ps s) (λ cs. Ok (left (c.value ∷ cs.value) cs.turns)) c.turns (items_claims file ps s c.turns)
    (items-exact file calls ps s c.turns) (λ cs. exact-here (c.value ∷ cs.value) cs.turns))

limited-exact : (l : Option ControlLimit) (s next : BodyState) (turns : ℕ) → RunsExactly (λ t. unless_limited l s t next) turns (unless_limited l s turns next)
limited-exact None s next turns = went-exact GoesOn next turns
limited-exact (Some limit) s next turns = λ more. refl

task-exact : (file : File) → CallsExact file → (sites : List Site) (number : Option ℕ) (ps : List clause.ClauseMember) (s : BodyState) (turns : ℕ) →
    RunsExactly (run_task file sites number ps s) turns (run_task file sites number ps s turns)
task-exact file calls sites None ps s turns = went-exact GoesOn s turns
task-exact file calls sites (Some number) ps s turns =
    with_value-exact (items_claims file ps s) s
    (λ c. unless_limited (limit s.activations c.value) s c.turns (with_activation file number (captured_by sites number) c.value s)) turns
    (items_claims file ps s turns) (items-exact file calls ps s turns)
    (λ c i. limited-exact (limit s.activations c.value) s (with_activation file number (captured_by sites number) c.value s) c.turns)

turn-exact : (stream amount : ℕ) (s : BodyState) (turns : ℕ) → RunsExactly (tick_turn stream amount s) turns (tick_turn stream amount s turns)
turn-exact stream amount s zero = tt
turn-exact stream amount s (suc turns) =
    one-more (tick_turn stream amount s) (goes_on (moved stream amount s)) turns (goes_on (moved stream amount s) turns) (s.activations, refl)
    (λ k. refl) (went-exact GoesOn (moved stream amount s) turns)

tick-exact : (file : File) → CallsExact file → (t : tree.TargetTree) (arrow : Mark) (e : tree.ExprTree) (s : BodyState) (turns : ℕ) →
    RunsExactly (run_tick file t arrow e s) turns (run_tick file t arrow e s turns)
tick-exact file calls t arrow e s turns =
    with_value-exact (stream_number file t s) s
    (λ n. with_value (value file e s n.turns) s
    (λ v. with_value (cursor_move arrow.line v.value) s (λ amount. tick_turn n.value amount s v.turns))) turns (stream_number file t s turns)
    (number-exact file calls t s turns)
    (λ n i. valued-exact file calls e s n.turns (λ v. with_value (cursor_move arrow.line v.value) s (λ amount. tick_turn n.value amount s v.turns))
    (λ v. with_value-plain (cursor_move arrow.line v.value) s (λ amount. tick_turn n.value amount s) v.turns
    (λ amount. turn-exact n.value amount s v.turns)))

mutual
  pub run-exact : (u : Around) → CallsFall u.file → CallsExact u.file → (a : tree.StmtTree) (s : BodyState) (turns : ℕ) →
      RunsExactly (run u a s) turns (run u a s turns)
  run-exact u fall calls tree.StmtTree.Empty s turns = went-exact GoesOn s turns
  run-exact u fall calls (tree.Block ss) s turns = left-exact s (run_all u ss s) turns (run_all u ss s turns) (all-exact u fall calls ss s turns)
  run-exact u fall calls (tree.StmtTree.Declare ty ds) s turns = declarators-exact u calls (is_unsigned ty) ds s turns
  run-exact u fall calls (tree.StmtTree.Change c) s turns = change-exact u.file calls c s turns
  run-exact u fall calls (tree.StmtTree.Call f args) s turns =
      with_value-exact (λ t. and_then (values u.file args s t) (call_value u.file.calls (variable u.file s f.id))) s (λ n. goes_on s n.turns) turns
      (and_then (values u.file args s turns) (call_value u.file.calls (variable u.file s f.id)))
      (exact-then (values u.file args s) (call_value u.file.calls (variable u.file s f.id)) turns (values u.file args s turns)
      (values-exact u.file calls args s turns) (λ n. call-exact u.file calls (variable u.file s f.id) n.value n.turns))
      (λ n i. went-exact GoesOn s n.turns)
  run-exact u fall calls (tree.If c a) s turns =
      valued-exact u.file calls c s turns (λ n. if is_zero n.value then goes_on s n.turns else run u a s n.turns)
      (λ n. runs-if (is_zero n.value) (goes_on s) (run u a s) n.turns (went-exact GoesOn s n.turns) (run-exact u fall calls a s n.turns))
  run-exact u fall calls (tree.IfElse c a b) s turns =
      valued-exact u.file calls c s turns (λ n. if is_zero n.value then run u b s n.turns else run u a s n.turns)
      (λ n. runs-if (is_zero n.value) (run u b s) (run u a s) n.turns (run-exact u fall calls b s n.turns) (run-exact u fall calls a s n.turns))
  run-exact u fall calls (tree.While c a) s turns =
      loop-exact (value u.file c) (run u a) goes_on (value-falls u.file fall c) (run-keeps u fall a) (λ s turns. keeps-on s s turns refl)
      (value-exact u.file calls c) (run-exact u fall calls a) (λ s turns. went-exact GoesOn s turns) turns s turns (omega arith)
  run-exact u fall calls (tree.For start test step a) s turns =
      left-exact s (λ t. flows (again (run_test u.file test) (run u a) (run_step u.file step)) (run_start u start s t)) turns
      (flows (again (run_test u.file test) (run u a) (run_step u.file step)) (run_start u start s turns))
      (flows-exact (again (run_test u.file test) (run u a) (run_step u.file step)) (run_start u start s) turns (run_start u start s turns)
      (start-exact u calls start s turns)
      (λ inner left i. loop-exact (run_test u.file test) (run u a) (run_step u.file step) (test-falls u.file fall test) (run-keeps u fall a)
      (step-keeps u.file fall step) (test-exact u.file calls test) (run-exact u fall calls a) (step-exact u.file calls step) left inner left (omega arith)))
  run-exact u fall calls (tree.Break m) s turns = went-exact Breaks s turns
  run-exact u fall calls (tree.Continue m) s turns = went-exact Continues s turns
  run-exact u fall calls (tree.Return m e) s turns =
      valued-exact u.file calls e s turns (λ n. Went (Returns n.value) s n.turns) (λ n. went-exact (Returns n.value) s n.turns)
  run-exact u fall calls (tree.Task m cs a) s turns = task-exact u.file calls u.sites (task_number u.sites m) (members cs) s turns
  run-exact u fall calls (tree.Tick m t arrow e) s turns = tick-exact u.file calls t arrow e s turns
  run-exact u fall calls (tree.Taskwait m) s turns = went-exact GoesOn s turns

  pub all-exact : (u : Around) → CallsFall u.file → CallsExact u.file → (ss : tree.Stmts) (s : BodyState) (turns : ℕ) →
      RunsExactly (run_all u ss s) turns (run_all u ss s turns)
  all-exact u fall calls tree.no_stmts s turns = went-exact GoesOn s turns
  all-exact u fall calls (tree.stmt a rest) s turns =
      flows-exact (run_all u rest) (run u a s) turns (run u a s turns) (run-exact u fall calls a s turns) (λ t left i. all-exact u fall calls rest t left)
