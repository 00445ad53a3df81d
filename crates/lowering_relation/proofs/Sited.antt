-- Each activation that the control program creates is of one of its tasks.
use Rattle.std.proofs.Common.{◌≡◌, ℕ, zero, suc, ◌<◌, Bool, true, false, cond, if◌then◌else◌, List, [], ◌∷◌, ◌++◌, length, replicate, slice_get, Option, Some, None, Ok, Err, ℤ, pos, refl, sym, ap, ◌∙◌, subst, arith}
use Rattle.std.specs.Prelude.{⊤, ◌==◌, nat_lt}
use Rattle.std.specs.List.{position_or_len}
use Rattle.std.proofs.lemmas.Bool.{ltb-true}
use Rattle.c_int.specs.Operators.{is_zero}
use Rattle.c_int.specs.declared.control_limit.ControlLimit.{ControlLimit}
use Rattle.cddf_meaning.specs.Answers.{Answer, and_then, Left, with_turns}
use Rattle.cddf_meaning.specs.Claims.{limit}
use Rattle.cddf_meaning.specs.Control.{control, control_in, control_of, control_state, round_main}
use Rattle.cddf_meaning.specs.File.{File, variable, type_in}
use Rattle.cddf_meaning.specs.Flow.{Ran, Runs, Went, Ended, with_value, goes_on, flows, loops, left_from}
use Rattle.cddf_meaning.specs.Operators.{binary_answer, step_operator}
use Rattle.cddf_meaning.specs.Program.{Main, main_of}
use Rattle.cddf_meaning.specs.Run.{Around, loop, assigned, aim_at, old_value, after_store, changed, target_type, run_change, run_scalar, array_size, run_array, run_window, window_size, with_streams, run_streams, run_unsized_or, run_declarator, run_declarators, run_start, run_test, run_step, run, run_all}
use Rattle.cddf_meaning.specs.BodyState.{BodyState, declared, stored, stored_in, stored_in_at}
use Rattle.cddf_meaning.specs.Streams.{stream_number, cursor_move, items_claims, run_task, run_tick, tick_turn, unless_limited, with_activation, captured_by, task_number}
use Rattle.cddf_meaning.specs.Tasks.{Task, sites_of}
use Rattle.cddf_meaning.specs.Value.{value, values, call_value}
use Rattle.cddf_meaning.specs.Variables.{find}
use Rattle.cddf_meaning.specs.declared.aim.Aim.{Aim}
use Rattle.cddf_meaning.specs.declared.aim.Aim.TheVariants.{Name, Element}
use Rattle.cddf_meaning.specs.declared.flow.Flow.TheVariants.{GoesOn, Breaks, Continues, Returns}
use Rattle.cddf_meaning.specs.declared.site.Site.{Site}
use Rattle.cddf_meaning.specs.declared.variable.Variable.{Variable}
use Rattle.cddf_meaning.specs.declared.variable.Variable.TheVariants.{Constant, Function, Scalar, Array, Window, Stream, Item}
use Rattle.flow_core_laws.specs.declared.activation.Activation.{Activation}
use Rattle.os_ast.specs.ClauseMembers.{ClauseMember, members}
use Rattle.os_ast.specs.Trees as tree
use Rattle.os_ast.specs.Unsigned.{is_unsigned}
use Rattle.os_ast.specs.declared.expr.Mark.{Mark}

-- what was created by the end of a run
abbrev pub made_in : Ran → List Activation
made_in (Went flow s turns) = s.activations
made_in (Ended ending made) = made

-- the activations are of the first n tasks
abbrev pub AreSited : ℕ → List Activation → Type 0
AreSited n [] = ⊤
AreSited n (a ∷ made) = (a.site < n) × AreSited n made

one_more : (n : ℕ) (made : List Activation) (a : Activation) → AreSited n made → a.site < n → AreSited n (made ++ a ∷ [])
one_more n [] a h lt = (lt, tt)
one_more n (b ∷ made) a h lt = (h.0, one_more n made a h.1 lt)

pub sited_at : (n : ℕ) (made : List Activation) (k : ℕ) (a : Activation) → AreSited n made → slice_get made k ≡ Some a → a.site < n
sited_at n [] k a h at = absurd (cc)
sited_at n (b ∷ made) zero a h at = let same : b ≡ a = cc in subst (λ (x : Activation). x.site < n) same h.0
sited_at n (b ∷ made) (suc k) a h at = sited_at n made k a h.1 at

-- what is stored creates nothing
stored_in-made : (found : Option Variable) (s : BodyState) (id : ℕ) (v : ℤ) → (stored_in found s id v).activations ≡ s.activations
stored_in-made (Some (Item item)) s id v = refl
stored_in-made (Some (Scalar old)) s id v = refl
stored_in-made (Some (Constant c)) s id v = refl
stored_in-made (Some (Function f)) s id v = refl
stored_in-made (Some (Array vs)) s id v = refl
stored_in-made (Some (Window h)) s id v = refl
stored_in-made (Some (Stream first count)) s id v = refl
stored_in-made None s id v = refl

stored_in_at-made : (found : Option Variable) (s : BodyState) (id k : ℕ) (v : ℤ) → (stored_in_at found s id k v).activations ≡ s.activations
stored_in_at-made (Some (Item item)) s id k v = refl
stored_in_at-made (Some (Scalar old)) s id k v = refl
stored_in_at-made (Some (Constant c)) s id k v = refl
stored_in_at-made (Some (Function f)) s id k v = refl
stored_in_at-made (Some (Array vs)) s id k v = refl
stored_in_at-made (Some (Window h)) s id k v = refl
stored_in_at-made (Some (Stream first count)) s id k v = refl
stored_in_at-made None s id k v = refl

after_store-made : (s : BodyState) (aim : Aim) (v : ℤ) → (after_store s aim v).activations ≡ s.activations
after_store-made s (Name id) v = stored_in-made (find s.bound id) s id v
after_store-made s (Element id k) v = stored_in_at-made (find s.bound id) s id k v

module _ (n : ℕ) where
  abbrev Sited : Ran → Type 0
  Sited r = AreSited n (made_in r)

  abbrev RunsSited : Runs → Type 0
  RunsSited next = (s : BodyState) (turns : ℕ) → AreSited n s.activations → Sited (next s turns)

  on_sited : (s t : BodyState) (turns : ℕ) → t.activations ≡ s.activations → AreSited n s.activations → Sited (goes_on t turns)
  on_sited s t turns same h = subst (AreSited n) (sym same) h

  given_sited : {A : Type 0} (s : BodyState) (a : Answer A) (next : A → Ran) → AreSited n s.activations → ((v : A) → Sited (next v)) → Sited (with_value a s next)
  given_sited s (Ok v) next h f = f v
  given_sited s (Err ending) next h f = h

  flows_sited : (next : Runs) (r : Ran) → Sited r → RunsSited next → Sited (flows next r)
  flows_sited next (Went GoesOn s turns) h f = f s turns h
  flows_sited next (Went Breaks s turns) h f = h
  flows_sited next (Went Continues s turns) h f = h
  flows_sited next (Went (Returns v) s turns) h f = h
  flows_sited next (Ended ending made) h f = h

  loops_sited : (next : Runs) (r : Ran) → Sited r → RunsSited next → Sited (loops next r)
  loops_sited next (Went GoesOn s turns) h f = f s turns h
  loops_sited next (Went Breaks s turns) h f = h
  loops_sited next (Went Continues s turns) h f = f s turns h
  loops_sited next (Went (Returns v) s turns) h f = h
  loops_sited next (Ended ending made) h f = h

  left_sited : (outer : BodyState) (r : Ran) → Sited r → Sited (left_from outer r)
  left_sited outer (Went flow s turns) h = h
  left_sited outer (Ended ending made) h = h

  if_sited : (t : Bool) (a b : Ran) → Sited a → Sited b → Sited (if t then a else b)
  if_sited true a b f g = f
  if_sited false a b f g = g

  either_sited : (t : Bool) (a b : Runs) → RunsSited a → RunsSited b → RunsSited (if t then a else b)
  either_sited true a b f g = f
  either_sited false a b f g = g

  changed_sited : (file : File) (t : tree.TargetTree) (right : ℤ → BodyState → ℕ → Answer (Left ℤ)) → RunsSited (changed file t right)
  changed_sited file t right s turns h =
      given_sited s (aim_at file t s turns)
      (λ a. with_value (right (old_value file s a.value) s a.turns) s (λ v. goes_on (after_store s a.value v.value) v.turns)) h
      (λ a. given_sited s (right (old_value file s a.value) s a.turns) (λ v. goes_on (after_store s a.value v.value) v.turns) h
      (λ v. on_sited s (after_store s a.value v.value) v.turns (after_store-made s a.value v.value) h))

  change_sited : (file : File) (c : tree.ChangeTree) → RunsSited (run_change file c)
  change_sited file (tree.Set t a m e) =
      changed_sited file t (λ old s turns. and_then (value file e s turns) (λ n. with_turns n.turns (assigned a m.line (target_type file s t) (type_in file s e) old n.value)))
  change_sited file (tree.After t p m) = changed_sited file t (λ old s turns. with_turns turns (binary_answer (step_operator p) m.line (target_type file s t) false old (pos 1)))
  change_sited file (tree.Before t p m) = changed_sited file t (λ old s turns. with_turns turns (binary_answer (step_operator p) m.line (target_type file s t) false old (pos 1)))

  scalar_sited : (file : File) (w : Bool) (id : ℕ) (first : Option tree.ExprTree) → RunsSited (run_scalar file w id first)
  scalar_sited file w id None s turns h = h
  scalar_sited file w id (Some e) s turns h =
      let inner = declared id w (Scalar (pos 0)) s in
      given_sited inner (value file e inner turns) (λ n. goes_on (stored inner id n.value) n.turns) h
      (λ n. on_sited inner (stored inner id n.value) n.turns (stored_in-made (find inner.bound id) inner id n.value) h)

  streams_sited : (file : File) (w : Bool) (id : ℕ) (size : Option tree.IndexTree) → RunsSited (run_streams file w id size)
  streams_sited file w id None s turns h = h
  streams_sited file w id (Some i) s turns h =
      given_sited s (value file i.value s turns) (λ n. goes_on (with_streams id w (array_size n.value) s) n.turns) h (λ n. h)

  window_sited : (file : File) (w : Bool) (id : ℕ) (i : tree.IndexTree) → RunsSited (run_window file w id i)
  window_sited file w id i s turns h =
      given_sited s (value file i.value s turns)
      (λ n. with_value (window_size i.mark.line n.value) s (λ horizon. goes_on (declared id w (Window horizon) s) n.turns)) h
      (λ n. given_sited s (window_size i.mark.line n.value) (λ horizon. goes_on (declared id w (Window horizon) s) n.turns) h (λ horizon. h))

  array_sited : (file : File) (w : Bool) (id : ℕ) (size : tree.ExprTree) → RunsSited (run_array file w id size)
  array_sited file w id size s turns h =
      given_sited s (value file size s turns) (λ n. goes_on (declared id w (Array (replicate (array_size n.value) (pos 0))) s) n.turns) h (λ n. h)

  unsized_sited : (u : Around) (w : Bool) (d : tree.DeclaratorTree) (size : Option tree.IndexTree) → RunsSited (run_unsized_or u w d size)
  unsized_sited u w d None = scalar_sited u.file w d.name.id d.first
  unsized_sited u w d (Some i) =
      either_sited u.is_control (run_window u.file w d.name.id i) (run_array u.file w d.name.id i.value) (window_sited u.file w d.name.id i)
      (array_sited u.file w d.name.id i.value)

  declarator_sited : (u : Around) (w : Bool) (d : tree.DeclaratorTree) → RunsSited (run_declarator u w d)
  declarator_sited u w d =
      either_sited d.stream (run_streams u.file w d.name.id d.size) (run_unsized_or u w d d.size) (streams_sited u.file w d.name.id d.size)
      (unsized_sited u w d d.size)

  declarators_sited : (u : Around) (w : Bool) (ds : List tree.DeclaratorTree) → RunsSited (run_declarators u w ds)
  declarators_sited u w [] s turns h = h
  declarators_sited u w (d ∷ ds) s turns h =
      flows_sited (run_declarators u w ds) (run_declarator u w d s turns) (declarator_sited u w d s turns h) (declarators_sited u w ds)

  start_sited : (u : Around) (start : tree.StartTree) → RunsSited (run_start u start)
  start_sited u tree.StartTree.Empty s turns h = h
  start_sited u (tree.StartTree.Declare ty ds) s turns h = declarators_sited u (is_unsigned ty) ds s turns h
  start_sited u (tree.StartTree.Change c) s turns h = change_sited u.file c s turns h

  step_sited : (file : File) (step : Option tree.ChangeTree) → RunsSited (run_step file step)
  step_sited file None s turns h = h
  step_sited file (Some c) s turns h = change_sited file c s turns h

  loop_sited : (most : ℕ) (test : BodyState → ℕ → Answer (Left ℤ)) (body step : Runs) → RunsSited body → RunsSited step → RunsSited (loop most test body step)
  loop_sited most test body step f g s zero h = h
  loop_sited zero test body step f g s (suc turns) h = h
  loop_sited (suc most) test body step f g s (suc turns) h =
      let again : Runs = λ s turns. flows (loop most test body step) (step s turns) in
      given_sited s (test s turns) (λ n. if is_zero n.value then goes_on s n.turns else loops again (body s n.turns)) h
      (λ n. if_sited (is_zero n.value) (goes_on s n.turns) (loops again (body s n.turns)) h
      (loops_sited again (body s n.turns) (f s n.turns h)
      (λ t left k. flows_sited (loop most test body step) (step t left) (g t left k) (loop_sited most test body step f g))))

  limited_sited : (l : Option ControlLimit) (s next : BodyState) (turns : ℕ) → AreSited n s.activations → AreSited n next.activations → Sited (unless_limited l s turns next)
  limited_sited None s next turns h k = k
  limited_sited (Some limit) s next turns h k = h

  task_sited : (file : File) (sites : List Site) (number : Option ℕ) (ps : List ClauseMember) → ((k : ℕ) → number ≡ Some k → k < n)
      → RunsSited (run_task file sites number ps)
  task_sited file sites None ps below s turns h = h
  task_sited file sites (Some number) ps below s turns h =
      given_sited s (items_claims file ps s turns)
      (λ c. unless_limited (limit s.activations c.value) s c.turns (with_activation file number (captured_by sites number) c.value s)) h
      (λ c. limited_sited (limit s.activations c.value) s (with_activation file number (captured_by sites number) c.value s) c.turns h
      (one_more n s.activations _ h (below number refl)))

  turn_sited : (stream amount : ℕ) → RunsSited (tick_turn stream amount)
  turn_sited stream amount s zero h = h
  turn_sited stream amount s (suc turns) h = h

  tick_sited : (file : File) (t : tree.TargetTree) (arrow : Mark) (e : tree.ExprTree) → RunsSited (run_tick file t arrow e)
  tick_sited file t arrow e s turns h =
      given_sited s (stream_number file t s turns)
      (λ k. with_value (value file e s k.turns) s (λ v. with_value (cursor_move arrow.line v.value) s (λ amount. tick_turn k.value amount s v.turns))) h
      (λ k. given_sited s (value file e s k.turns) (λ v. with_value (cursor_move arrow.line v.value) s (λ amount. tick_turn k.value amount s v.turns)) h
      (λ v. given_sited s (cursor_move arrow.line v.value) (λ amount. tick_turn k.value amount s v.turns) h
      (λ amount. turn_sited k.value amount s v.turns h)))

module _ (u : Around) (n : ℕ) (below : (m : Mark) (k : ℕ) → task_number u.sites m ≡ Some k → k < n) where
  mutual
    run_sited : (a : tree.StmtTree) → RunsSited n (run u a)
    run_sited tree.StmtTree.Empty s turns h = h
    run_sited (tree.Block ss) s turns h = left_sited n s (run_all u ss s turns) (all_sited ss s turns h)
    run_sited (tree.StmtTree.Declare ty ds) s turns h = declarators_sited n u (is_unsigned ty) ds s turns h
    run_sited (tree.StmtTree.Change c) s turns h = change_sited n u.file c s turns h
    run_sited (tree.StmtTree.Call f args) s turns h =
        given_sited n s (and_then (values u.file args s turns) (call_value u.file.calls (variable u.file s f.id))) (λ v. goes_on s v.turns) h (λ v. h)
    run_sited (tree.If c a) s turns h =
        given_sited n s (value u.file c s turns) (λ v. if is_zero v.value then goes_on s v.turns else run u a s v.turns) h
        (λ v. if_sited n (is_zero v.value) (goes_on s v.turns) (run u a s v.turns) h (run_sited a s v.turns h))
    run_sited (tree.IfElse c a b) s turns h =
        given_sited n s (value u.file c s turns) (λ v. if is_zero v.value then run u b s v.turns else run u a s v.turns) h
        (λ v. if_sited n (is_zero v.value) (run u b s v.turns) (run u a s v.turns) (run_sited b s v.turns h) (run_sited a s v.turns h))
    run_sited (tree.While c a) s turns h = loop_sited n turns (value u.file c) (run u a) goes_on (run_sited a) (λ t left k. k) s turns h
    run_sited (tree.For start test step a) s turns h =
        let next : Runs = λ inner left. loop left (run_test u.file test) (run u a) (run_step u.file step) inner left in
        left_sited n s (flows next (run_start u start s turns))
        (flows_sited n next (run_start u start s turns) (start_sited n u start s turns h)
        (λ inner left k. loop_sited n left (run_test u.file test) (run u a) (run_step u.file step) (run_sited a) (step_sited n u.file step) inner left k))
    run_sited (tree.Break m) s turns h = h
    run_sited (tree.Continue m) s turns h = h
    run_sited (tree.Return m e) s turns h = given_sited n s (value u.file e s turns) (λ v. Went (Returns v.value) s v.turns) h (λ v. h)
    run_sited (tree.Task m cs a) s turns h = task_sited n u.file u.sites (task_number u.sites m) (members cs) (below m) s turns h
    run_sited (tree.Tick m t arrow e) s turns h = tick_sited n u.file t arrow e s turns h
    run_sited (tree.Taskwait m) s turns h = h

    all_sited : (ss : tree.Stmts) → RunsSited n (run_all u ss)
    all_sited tree.no_stmts s turns h = h
    all_sited (tree.stmt a rest) s turns h = flows_sited n (run_all u rest) (run u a s turns) (run_sited a s turns h) (all_sited rest)

-- the place at which a test first passes is one of the list
place_within : (place long k : ℕ) (b : Bool) → nat_lt place long ≡ b → cond b (Some place) None ≡ Some k → k < long
place_within place long k true lt is = let same : place ≡ k = cc in omega (arith, same, ltb-true place long lt)
place_within place long k false lt is = absurd (cc)

sites-length : (ts : List Task) → length (sites_of ts) ≡ length ts
sites-length [] = refl
sites-length (t ∷ ts) = ap suc (sites-length ts)

number_below : (ts : List Task) (m : Mark) (k : ℕ) → task_number (sites_of ts) m ≡ Some k → k < length ts
number_below ts m k h =
    let place = position_or_len (λ (t : Site). t.place == m.place) (sites_of ts) in
    omega (arith, place_within place (length (sites_of ts)) k (nat_lt place (length (sites_of ts))) refl h, sites-length ts)

made_by : (r : Ran) → (control_of r).activations ≡ made_in r
made_by (Went flow s turns) = refl
made_by (Ended ending made) = refl

at_place : {A : Type 0} (xs : List A) (k : ℕ) → k < length xs → (x : A) × (slice_get xs k ≡ Some x)
at_place [] k lt = absurd (omega arith)
at_place (x ∷ xs) zero lt = (x, refl)
at_place (x ∷ xs) (suc k) lt = at_place xs k (omega arith)

-- an activation of the control program has a task of `main`
pub has_task : (p : tree.ProgramTree) (input_len budget k : ℕ) (a : Activation) → slice_get (control p input_len budget).activations k ≡ Some a
    → (m : Main) × (t : Task) × (main_of p ≡ Some m) × (slice_get m.tasks a.site ≡ Some t)
has_task p input_len budget k a = by (main_of p) refl
  where
    by : (o : Option Main) → main_of p ≡ o → slice_get (control_in o input_len budget).activations k ≡ Some a
        → (m : Main) × (t : Task) × (main_of p ≡ Some m) × (slice_get m.tasks a.site ≡ Some t)
    by None is at = absurd (cc)
    by (Some m) is at =
        let r = run_all (round_main m) m.body (control_state input_len) budget in
        let sited : AreSited (length m.tasks) (made_in r) =
        all_sited (round_main m) (length m.tasks) (number_below m.tasks) m.body (control_state input_len) budget tt in
        let lt = sited_at (length m.tasks) (made_in r) k a sited (ap (λ made. slice_get made k) (sym (made_by r)) ∙ at) in
        let (t, there) = at_place m.tasks a.site lt in
        (m, t, is, there)
