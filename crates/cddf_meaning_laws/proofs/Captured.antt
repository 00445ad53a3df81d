-- What activations of the control program capture are `int`s, and what bodies write.
use Rattle.std.proofs.Common.{◌≡◌, ℕ, zero, suc, ℤ, pos, ◌==◌, Bool, true, false, ◌&&◌, if◌then◌else◌, List, [], ◌∷◌, ◌++◌, All, Option, Some, None, Ok, Err, slice_get, refl, sym, subst}
use Rattle.std.specs.List.{list_all}
use Rattle.std.proofs.lemmas.List.Elements.{All-append, All-cons, All-nil, All-get_or}
use Rattle.std.proofs.lemmas.Option.{get_or_from_slice_get, slice_get_within}
use Rattle.c_int.specs.Operators.{is_int, is_zero}
use Rattle.c_int.specs.declared.control_limit.ControlLimit.{ControlLimit}
use Rattle.cddf_meaning.proofs.Ints.{file-fits, joined, run-fits}
use Rattle.cddf_meaning.proofs.TypedValues.{both, find-fits, in-file, scalar-int}
use Rattle.cddf_meaning.specs.Answers.{Answer, Left, and_then, with_turns}
use Rattle.cddf_meaning.specs.Body.{body, bound_round, chosen_outcome, done, gives_bytes, item_lists, outcome, outcome_in, outputs_of}
use Rattle.cddf_meaning.specs.BodyState.{BodyState, declared, state_of, stored, stored_in, stored_in_at}
use Rattle.cddf_meaning.specs.Claims.{limit}
use Rattle.cddf_meaning.specs.Control.{control_in, control_of, control_state, round_main}
use Rattle.cddf_meaning.specs.File.{File, type_in, variable}
use Rattle.cddf_meaning.specs.Fitting.{FileFits, RanFits, StateFits, items_fit, numbers_fit, start_fits, step_fits, stmt_fits, stmts_fit, value_fits}
use Rattle.cddf_meaning.specs.Flow.{Ran, Went, Ended, Runs, flows, goes_on, left_from, loops, with_value}
use Rattle.cddf_meaning.specs.Functions.{in_function}
use Rattle.cddf_meaning.specs.Operators.{binary_answer, step_operator}
use Rattle.cddf_meaning.specs.Program.{Main, main_at, main_behind, main_of}
use Rattle.cddf_meaning.specs.Run.{Around, after_store, aim_at, assigned, changed, loop, old_value, run, run_all, run_array, run_change, run_declarator, run_declarators, run_scalar, run_sized, run_start, run_step, run_streams, run_test, run_unsized_or, run_window, target_type, window_size}
use Rattle.cddf_meaning.specs.Streams.{captured_by, captured_values, cursor_move, items_claims, run_task, run_tick, stream_number, task_number, tick_turn, unless_limited, with_activation}
use Rattle.cddf_meaning.specs.Tasks.{Task, known_behind, known_in_main, known_start, task_at, tasks_in, tasks_in_all}
use Rattle.cddf_meaning.specs.Value.{scalar_value, value}
use Rattle.cddf_meaning.specs.Variables.{find}
use Rattle.cddf_meaning.specs.declared.aim.Aim.{Aim}
use Rattle.cddf_meaning.specs.declared.aim.Aim.TheVariants.{Name, Element}
use Rattle.cddf_meaning.specs.declared.known_name.KnownName.{KnownName}
use Rattle.cddf_meaning.specs.declared.ending.Ending.TheVariants.{Trapped, OverBudget, Limited}
use Rattle.cddf_meaning.specs.declared.flow.Flow.TheVariants.{GoesOn, Breaks, Continues, Returns}
use Rattle.cddf_meaning.specs.declared.site.Site.{Site}
use Rattle.cddf_meaning.specs.declared.variable.Variable.{Variable}
use Rattle.cddf_meaning.specs.declared.variable.Variable.TheVariants as variables
use Rattle.flow_core_laws.specs.Outcome.{trapped}
use Rattle.flow_core_laws.specs.declared.activation.Activation.{Activation}
use Rattle.flow_core_laws.specs.declared.claim.Claim.{Claim}
use Rattle.os_ast.specs.ClauseMembers.{ClauseMember, members}
use Rattle.os_ast.specs.Leveled.{IsLeveled}
use Rattle.os_ast.specs.Names.{main_id}
use Rattle.os_ast.specs.Trees as tree
use Rattle.os_ast.specs.Unsigned.{is_unsigned}
use Rattle.os_ast.specs.declared.expr.Mark.{Mark}
use Rattle.cddf_meaning_laws.proofs.Beginning.{outputs}
use Rattle.cddf_meaning_laws.specs.Beginning.{AreInts, BodiesGiveInts, MainBeginsWithInts, TasksBeginWithInts, TasksCaptureInts}

abbrev Ints : Activation → Type 0
Ints a = AreInts a.captured

abbrev AllInts : List Activation → Type 0
AllInts made = All Ints made

-- what a statement created, and what was there before, captured `int`s
abbrev Makes : Ran → Type 0
Makes (Went flow s turns) = AllInts s.activations
Makes (Ended ending made) = AllInts made

-- statements that create nothing, and those that may
abbrev Quiet : Runs → Type 0
Quiet r = (s : BodyState) (turns : ℕ) → AllInts s.activations → Makes (r s turns)

abbrev Creates : Runs → Type 0
Creates r = (s : BodyState) (turns : ℕ) → StateFits s → AllInts s.activations → Makes (r s turns)

abbrev RunsFit : Runs → Type 0
RunsFit r = (s : BodyState) (turns : ℕ) → StateFits s → RanFits (r s turns)

with_value-makes : {A : Type 0} (a : Answer A) (s : BodyState) (next : A → Ran) → AllInts s.activations → ((x : A) → Makes (next x)) → Makes (with_value a s next)
with_value-makes (Ok x) s next m k = k x
with_value-makes (Err ending) s next m k = m

if-makes : (t : Bool) (a b : Ran) → Makes a → Makes b → Makes (if t then a else b)
if-makes true a b f g = f
if-makes false a b f g = g

flows-quiet : (next : Runs) (r : Ran) → Makes r → Quiet next → Makes (flows next r)
flows-quiet next (Ended ending made) m k = m
flows-quiet next (Went GoesOn s turns) m k = k s turns m
flows-quiet next (Went Breaks s turns) m k = m
flows-quiet next (Went Continues s turns) m k = m
flows-quiet next (Went (Returns v) s turns) m k = m

flows-make : (next : Runs) (r : Ran) → RanFits r → Makes r → Creates next → Makes (flows next r)
flows-make next (Ended ending made) f m k = m
flows-make next (Went GoesOn s turns) f m k = k s turns f.0 m
flows-make next (Went Breaks s turns) f m k = m
flows-make next (Went Continues s turns) f m k = m
flows-make next (Went (Returns v) s turns) f m k = m

loops-make : (next : Runs) (r : Ran) → RanFits r → Makes r → Creates next → Makes (loops next r)
loops-make next (Ended ending made) f m k = m
loops-make next (Went GoesOn s turns) f m k = k s turns f.0 m
loops-make next (Went Breaks s turns) f m k = m
loops-make next (Went Continues s turns) f m k = k s turns f.0 m
loops-make next (Went (Returns v) s turns) f m k = m

left-makes : (outer : BodyState) (r : Ran) → Makes r → Makes (left_from outer r)
left-makes outer (Went flow s turns) m = m
left-makes outer (Ended ending made) m = m

loop-makes : (most : ℕ) (test : BodyState → ℕ → Answer (Left ℤ)) (body step : Runs) → RunsFit body → RunsFit step → Creates body → Quiet step
    → Creates (loop most test body step)
loop-makes most test body step f g c q s zero h m = m
loop-makes zero test body step f g c q s (suc turns) h m = m
loop-makes (suc most) test body step f g c q s (suc turns) h m =
    let again : Runs = λ s turns. flows (loop most test body step) (step s turns) in
    with_value-makes (test s turns) s (λ n. if is_zero n.value then goes_on s n.turns else loops again (body s n.turns)) m
    (λ n. if-makes (is_zero n.value) (goes_on s n.turns) (loops again (body s n.turns)) m
    (loops-make again (body s n.turns) (f s n.turns h) (c s n.turns h m)
    (λ t left k l. flows-make (loop most test body step) (step t left) (g t left k) (q t left l) (loop-makes most test body step f g c q))))

-- ---- statements that create nothing

stored-same : (o : Option Variable) (s : BodyState) (id : ℕ) (v : ℤ) → (stored_in o s id v).activations ≡ s.activations
stored-same None s id v = refl
stored-same (Some (variables.Constant c)) s id v = refl
stored-same (Some (variables.Function place)) s id v = refl
stored-same (Some (variables.Scalar old)) s id v = refl
stored-same (Some (variables.Array vs)) s id v = refl
stored-same (Some (variables.Window horizon)) s id v = refl
stored-same (Some (variables.Stream first count)) s id v = refl
stored-same (Some (variables.Item item)) s id v = refl

stored-at-same : (o : Option Variable) (s : BodyState) (id k : ℕ) (v : ℤ) → (stored_in_at o s id k v).activations ≡ s.activations
stored-at-same None s id k v = refl
stored-at-same (Some (variables.Constant c)) s id k v = refl
stored-at-same (Some (variables.Function place)) s id k v = refl
stored-at-same (Some (variables.Scalar old)) s id k v = refl
stored-at-same (Some (variables.Array vs)) s id k v = refl
stored-at-same (Some (variables.Window horizon)) s id k v = refl
stored-at-same (Some (variables.Stream first count)) s id k v = refl
stored-at-same (Some (variables.Item item)) s id k v = refl

after-same : (s : BodyState) (aim : Aim) (v : ℤ) → (after_store s aim v).activations ≡ s.activations
after-same s (Name id) v = stored-same (find s.bound id) s id v
after-same s (Element id k) v = stored-at-same (find s.bound id) s id k v

changed-quiet : (file : File) (t : tree.TargetTree) (right : ℤ → BodyState → ℕ → Answer (Left ℤ)) → Quiet (changed file t right)
changed-quiet file t right s turns m =
    with_value-makes (aim_at file t s turns) s
    (λ a. with_value (right (old_value file s a.value) s a.turns) s (λ v. goes_on (after_store s a.value v.value) v.turns)) m
    (λ a. with_value-makes (right (old_value file s a.value) s a.turns) s (λ v. goes_on (after_store s a.value v.value) v.turns) m
    (λ v. subst AllInts (sym (after-same s a.value v.value)) m))

change-quiet : (file : File) (c : tree.ChangeTree) → Quiet (run_change file c)
change-quiet file (tree.Set t a line e) =
    changed-quiet file t
    (λ old s turns. and_then (value file e s turns) (λ n. with_turns n.turns (assigned a line.line (target_type file s t) (type_in file s e) old n.value)))
change-quiet file (tree.After t p line) =
    changed-quiet file t (λ old s turns. with_turns turns (binary_answer (step_operator p) line.line (target_type file s t) false old (pos 1)))
change-quiet file (tree.Before t p line) =
    changed-quiet file t (λ old s turns. with_turns turns (binary_answer (step_operator p) line.line (target_type file s t) false old (pos 1)))

scalar-quiet : (file : File) (unsigned : Bool) (id : ℕ) (first : Option tree.ExprTree) → Quiet (run_scalar file unsigned id first)
scalar-quiet file unsigned id None s turns m = m
scalar-quiet file unsigned id (Some e) s turns m =
    let inner = declared id unsigned (variables.Scalar (pos 0)) s in
    with_value-makes (value file e inner turns) inner (λ n. goes_on (stored inner id n.value) n.turns) m
    (λ n. subst AllInts (sym (stored-same (find inner.bound id) inner id n.value)) m)

array-quiet : (file : File) (unsigned : Bool) (id : ℕ) (size : tree.ExprTree) → Quiet (run_array file unsigned id size)
array-quiet file unsigned id size s turns m = with_value-makes (value file size s turns) s _ m (λ n. m)

window-quiet : (file : File) (unsigned : Bool) (id : ℕ) (i : tree.IndexTree) → Quiet (run_window file unsigned id i)
window-quiet file unsigned id i s turns m =
    with_value-makes (value file i.value s turns) s _ m (λ n. with_value-makes (window_size i.mark.line n.value) s _ m (λ horizon. m))

streams-quiet : (file : File) (unsigned : Bool) (id : ℕ) (size : Option tree.IndexTree) → Quiet (run_streams file unsigned id size)
streams-quiet file unsigned id None s turns m = m
streams-quiet file unsigned id (Some i) s turns m = with_value-makes (value file i.value s turns) s _ m (λ n. m)

sized-quiet : (u : Around) (unsigned : Bool) (id : ℕ) (i : tree.IndexTree) → Quiet (run_sized u unsigned id i)
sized-quiet u unsigned id i s turns m = by u.is_control
  where
    by : (c : Bool) → Makes ((if c then run_window u.file unsigned id i else run_array u.file unsigned id i.value) s turns)
    by true = window-quiet u.file unsigned id i s turns m
    by false = array-quiet u.file unsigned id i.value s turns m

unsized-quiet : (u : Around) (unsigned : Bool) (d : tree.DeclaratorTree) (size : Option tree.IndexTree) → Quiet (run_unsized_or u unsigned d size)
unsized-quiet u unsigned d None = scalar-quiet u.file unsigned d.name.id d.first
unsized-quiet u unsigned d (Some i) = sized-quiet u unsigned d.name.id i

declarator-quiet : (u : Around) (unsigned : Bool) (d : tree.DeclaratorTree) → Quiet (run_declarator u unsigned d)
declarator-quiet u unsigned d s turns m = by d.stream
  where
    by : (c : Bool) → Makes ((if c then run_streams u.file unsigned d.name.id d.size else run_unsized_or u unsigned d d.size) s turns)
    by true = streams-quiet u.file unsigned d.name.id d.size s turns m
    by false = unsized-quiet u unsigned d d.size s turns m

declarators-quiet : (u : Around) (unsigned : Bool) (ds : List tree.DeclaratorTree) → Quiet (run_declarators u unsigned ds)
declarators-quiet u unsigned [] s turns m = m
declarators-quiet u unsigned (d ∷ ds) s turns m =
    flows-quiet (run_declarators u unsigned ds) (run_declarator u unsigned d s turns) (declarator-quiet u unsigned d s turns m) (declarators-quiet u unsigned ds)

step-quiet : (file : File) (step : Option tree.ChangeTree) → Quiet (run_step file step)
step-quiet file None s turns m = m
step-quiet file (Some c) s turns m = change-quiet file c s turns m

start-quiet : (u : Around) (start : tree.StartTree) → Quiet (run_start u start)
start-quiet u tree.StartTree.Empty s turns m = m
start-quiet u (tree.StartTree.Declare ty ds) s turns m = declarators-quiet u (is_unsigned ty) ds s turns m
start-quiet u (tree.StartTree.Change c) s turns m = change-quiet u.file c s turns m

tick-quiet : (file : File) (t : tree.TargetTree) (arrow : Mark) (e : tree.ExprTree) → Quiet (run_tick file t arrow e)
tick-quiet file t arrow e s turns m =
    with_value-makes (stream_number file t s turns) s _ m
    (λ n. with_value-makes (value file e s n.turns) s _ m
    (λ v. with_value-makes (cursor_move arrow.line v.value) s _ m (λ amount. last n.value amount v.turns)))
  where
    last : (stream amount left : ℕ) → Makes (tick_turn stream amount s left)
    last stream amount zero = m
    last stream amount (suc left) = m

-- they leave `int`s in their states, as statements do
step-fits : (u : Around) → FileFits u.file → (step : Option tree.ChangeTree) → step_fits step ≡ true → RunsFit (run_step u.file step)
step-fits u g None h s turns f = (f, tt)
step-fits u g (Some c) h s turns f = run-fits u g (tree.StmtTree.Change c) h s turns f

start-fits : (u : Around) → FileFits u.file → (start : tree.StartTree) → start_fits start ≡ true → RunsFit (run_start u start)
start-fits u g tree.StartTree.Empty h s turns f = (f, tt)
start-fits u g (tree.StartTree.Declare ty ds) h s turns f = run-fits u g (tree.StmtTree.Declare ty ds) h s turns f
start-fits u g (tree.StartTree.Change c) h s turns f = run-fits u g (tree.StmtTree.Change c) h s turns f

-- ---- a task captures what stands in the state

captured-ints : (file : File) → FileFits file → (s : BodyState) → StateFits s → (ids : List ℕ) → AreInts (captured_values file s ids)
captured-ints file g s f [] = refl
captured-ints file g s f (id ∷ ids) =
    joined (is_int (scalar_value s (variable file s id))) (list_all is_int (captured_values file s ids))
    (scalar-int s f (variable file s id) (in-file file g id (find s.bound id) (find-fits s.bound id f.variables))) (captured-ints file g s f ids)

task-makes : (file : File) → FileFits file → (sites : List Site) (number : Option ℕ) (ps : List ClauseMember) → Creates (run_task file sites number ps)
task-makes file g sites None ps s turns f m = m
task-makes file g sites (Some number) ps s turns f m =
    with_value-makes (items_claims file ps s turns) s
    (λ c. unless_limited (limit s.activations c.value) s c.turns (with_activation file number (captured_by sites number) c.value s)) m
    (λ c. unless (limit s.activations c.value) c.value c.turns)
  where
    unless : (l : Option ControlLimit) (claims : List Claim) (left : ℕ) → Makes (unless_limited l s left (with_activation file number (captured_by sites number) claims s))
    unless (Some l) claims left = m
    unless None claims left =
        All-append Ints s.activations _ m (All-cons Ints _ [] (captured-ints file g s f (captured_by sites number)) (All-nil Ints))

mutual
  run-makes : (u : Around) → FileFits u.file → (a : tree.StmtTree) → stmt_fits a ≡ true → Creates (run u a)
  run-makes u g tree.StmtTree.Empty h s turns f m = m
  run-makes u g (tree.Block ss) h s turns f m = left-makes s (run_all u ss s turns) (all-make u g ss h s turns f m)
  run-makes u g (tree.StmtTree.Declare ty ds) h s turns f m = declarators-quiet u (is_unsigned ty) ds s turns m
  run-makes u g (tree.StmtTree.Change c) h s turns f m = change-quiet u.file c s turns m
  run-makes u g (tree.StmtTree.Call n args) h s turns f m = with_value-makes _ s (λ n. goes_on s n.turns) m (λ n. m)
  run-makes u g (tree.If c a) h s turns f m =
      let fits = both (numbers_fit c) (stmt_fits a) h in
      with_value-makes (value u.file c s turns) s (λ n. if is_zero n.value then goes_on s n.turns else run u a s n.turns) m
      (λ n. if-makes (is_zero n.value) (goes_on s n.turns) (run u a s n.turns) m (run-makes u g a fits.1 s n.turns f m))
  run-makes u g (tree.IfElse c a b) h s turns f m =
      let fits = both (numbers_fit c) (stmt_fits a && stmt_fits b) h in
      let branches = both (stmt_fits a) (stmt_fits b) fits.1 in
      with_value-makes (value u.file c s turns) s (λ n. if is_zero n.value then run u b s n.turns else run u a s n.turns) m
      (λ n. if-makes (is_zero n.value) (run u b s n.turns) (run u a s n.turns) (run-makes u g b branches.1 s n.turns f m) (run-makes u g a branches.0 s n.turns f m))
  run-makes u g (tree.While c a) h s turns f m =
      let fits = both (numbers_fit c) (stmt_fits a) h in
      loop-makes turns (value u.file c) (run u a) goes_on (run-fits u g a fits.1) (λ s turns f. (f, tt)) (run-makes u g a fits.1) (λ s turns m. m) s turns f m
  run-makes u g (tree.For start test step a) h s turns f m =
      let fits = both (start_fits start && value_fits test) (step_fits step && stmt_fits a) h in
      let first = both (start_fits start) (value_fits test) fits.0 in
      let rest = both (step_fits step) (stmt_fits a) fits.1 in
      left-makes s (flows (λ inner left. loop left (run_test u.file test) (run u a) (run_step u.file step) inner left) (run_start u start s turns))
      (flows-make (λ inner left. loop left (run_test u.file test) (run u a) (run_step u.file step) inner left) (run_start u start s turns)
      (start-fits u g start first.0 s turns f) (start-quiet u start s turns m)
      (λ inner left k l. loop-makes left (run_test u.file test) (run u a) (run_step u.file step) (run-fits u g a rest.1) (step-fits u g step rest.0)
      (run-makes u g a rest.1) (step-quiet u.file step) inner left k l))
  run-makes u g (tree.Break mark) h s turns f m = m
  run-makes u g (tree.Continue mark) h s turns f m = m
  run-makes u g (tree.Return mark e) h s turns f m = with_value-makes (value u.file e s turns) s (λ n. Went (Returns n.value) s n.turns) m (λ n. m)
  run-makes u g (tree.Task mark cs a) h s turns f m = task-makes u.file g u.sites (task_number u.sites mark) (members cs) s turns f m
  run-makes u g (tree.Tick mark t arrow e) h s turns f m = tick-quiet u.file t arrow e s turns m
  run-makes u g (tree.Taskwait mark) h s turns f m = m

  all-make : (u : Around) → FileFits u.file → (ss : tree.Stmts) → stmts_fit ss ≡ true → Creates (run_all u ss)
  all-make u g tree.no_stmts h s turns f m = m
  all-make u g (tree.stmt a rest) h s turns f m =
      let fits = both (stmt_fits a) (stmts_fit rest) h in
      flows-make (run_all u rest) (run u a s turns) (run-fits u g a fits.0 s turns f) (run-makes u g a fits.0 s turns f m) (all-make u g rest fits.1)

-- ---- `main` and its tasks stand in a file that fits

record MainFits (m : Main) : Type 0 where
  file : FileFits m.file
  body : stmts_fit m.body ≡ true
  tasks : All (λ (t : Task). stmt_fits t.body ≡ true) m.tasks

abbrev TasksFit : List Task → Type 0
TasksFit ts = All (λ (t : Task). stmt_fits t.body ≡ true) ts

no_task : TasksFit []
no_task = All-nil (λ (t : Task). stmt_fits t.body ≡ true)

mutual
  tasks-fit : (ks : List KnownName) (a : tree.StmtTree) → stmt_fits a ≡ true → TasksFit (tasks_in ks a)
  tasks-fit ks tree.StmtTree.Empty h = no_task
  tasks-fit ks (tree.Block ss) h = all-tasks-fit ks ss h
  tasks-fit ks (tree.StmtTree.Declare ty ds) h = no_task
  tasks-fit ks (tree.StmtTree.Change c) h = no_task
  tasks-fit ks (tree.StmtTree.Call f args) h = no_task
  tasks-fit ks (tree.If c a) h = tasks-fit ks a (both (numbers_fit c) (stmt_fits a) h).1
  tasks-fit ks (tree.IfElse c a b) h =
      let branches = both (stmt_fits a) (stmt_fits b) (both (numbers_fit c) (stmt_fits a && stmt_fits b) h).1 in
      All-append (λ (t : Task). stmt_fits t.body ≡ true) (tasks_in ks a) (tasks_in (ks ++ known_behind a) b) (tasks-fit ks a branches.0)
      (tasks-fit (ks ++ known_behind a) b branches.1)
  tasks-fit ks (tree.While c a) h = tasks-fit ks a (both (numbers_fit c) (stmt_fits a) h).1
  tasks-fit ks (tree.For start test step a) h =
      tasks-fit (ks ++ known_start start) a (both (step_fits step) (stmt_fits a) (both (start_fits start && value_fits test) (step_fits step && stmt_fits a) h).1).1
  tasks-fit ks (tree.Break mark) h = no_task
  tasks-fit ks (tree.Continue mark) h = no_task
  tasks-fit ks (tree.Return mark e) h = no_task
  tasks-fit ks (tree.Task mark cs a) h = All-cons (λ (t : Task). stmt_fits t.body ≡ true) (task_at ks mark cs a) [] h no_task
  tasks-fit ks (tree.Tick mark t arrow e) h = no_task
  tasks-fit ks (tree.Taskwait mark) h = no_task

  all-tasks-fit : (ks : List KnownName) (ss : tree.Stmts) → stmts_fit ss ≡ true → TasksFit (tasks_in_all ks ss)
  all-tasks-fit ks tree.no_stmts h = no_task
  all-tasks-fit ks (tree.stmt a rest) h =
      let fits = both (stmt_fits a) (stmts_fit rest) h in
      All-append (λ (t : Task). stmt_fits t.body ≡ true) (tasks_in ks a) (tasks_in_all (ks ++ known_behind a) rest) (tasks-fit ks a fits.0)
      (all-tasks-fit (ks ++ known_behind a) rest fits.1)

behind-fits : (before : List tree.ItemTree) (i : tree.ItemTree) → items_fit before ≡ true → items_fit (i ∷ []) ≡ true → items_fit (before ++ i ∷ []) ≡ true
behind-fits [] i h k = k
behind-fits (tree.Constant c ∷ before) i h k = behind-fits before i h k
behind-fits (tree.Function f ∷ before) i h k =
    let fits = both (stmts_fit f.body) (items_fit before) h in
    joined (stmts_fit f.body) (items_fit (before ++ i ∷ [])) fits.0 (behind-fits before i fits.1 k)

main-fits : (items before : List tree.ItemTree) (m : Main) → items_fit before ≡ true → items_fit items ≡ true → main_behind before items ≡ Some m → MainFits m
main-fits [] before m h k found = absurd (cc)
main-fits (tree.Constant c ∷ rest) before m h k found = main-fits rest (before ++ tree.Constant c ∷ []) m (behind-fits before (tree.Constant c) h refl) k found
main-fits (tree.Function f ∷ rest) before m h k found =
    let fits = both (stmts_fit f.body) (items_fit rest) k in
    by (f.name.id == main_id) fits found
    (main-fits rest (before ++ tree.Function f ∷ []) m (behind-fits before (tree.Function f) h (joined (stmts_fit f.body) true fits.0 refl)) fits.1)
  where
    by : (b : Bool) → (stmts_fit f.body ≡ true) × (items_fit rest ≡ true) → (if b then Some (main_at before f) else main_behind (before ++ tree.Function f ∷ []) rest) ≡ Some m
        → (main_behind (before ++ tree.Function f ∷ []) rest ≡ Some m → MainFits m) → MainFits m
    by true fits here later =
        let e : main_at before f ≡ m = cc in
        subst MainFits e (record { file = file-fits before h; body = fits.0; tasks = all-tasks-fit (known_in_main before f) f.body fits.0 })
    by false fits here later = later here

-- ---- what follows

-- what the law of numbers says of programs
abbrev pub ProgramsFit : Type 0
ProgramsFit = (p : tree.ProgramTree) → IsLeveled p → items_fit p ≡ true

made-ints : (r : Ran) → Makes r → AllInts (control_of r).activations
made-ints (Went flow s turns) m = m
made-ints (Ended ending made) m = m

pub capture : ProgramsFit → MainBeginsWithInts → TasksCaptureInts
capture programs begins p input_len budget leveled small = by (main_of p) refl
  where
    by : (o : Option Main) → main_of p ≡ o → AllInts (control_in o input_len budget).activations
    by None found = All-nil Ints
    by (Some m) found =
        let fits = main-fits p [] m refl (programs p leveled) found in
        made-ints (run_all (round_main m) m.body (control_state input_len) budget)
        (all-make (round_main m) fits.file m.body fits.body (control_state input_len) budget (begins input_len small) (All-nil Ints))

-- what a body leaves goes out
outcome-ints : (line : ℕ) (claims : List Claim) (r : Ran) → RanFits r → AreInts (outcome line claims r).outputs
outcome-ints line claims (Went flow s turns) f = by (gives_bytes claims s.items)
  where
    by : (b : Bool) → AreInts (if b then done (outputs_of claims s.items) else trapped 5 line).outputs
    by true = outputs claims s.items f.0.items
    by false = refl
outcome-ints line claims (Ended (Trapped why at) made) f = refl
outcome-ints line claims (Ended OverBudget made) f = refl
outcome-ints line claims (Ended (Limited l) made) f = refl

pub give : ProgramsFit → TasksBeginWithInts → BodiesGiveInts
give programs begins p a inputs budget leveled caught small h = by (main_of p) refl
  where
    by_task : (m : Main) → MainFits m → (o : Option Task) → slice_get m.tasks a.site ≡ o → AreInts (chosen_outcome m.file o a inputs budget).outputs
    by_task m fits None found = refl
    by_task m fits (Some t) found =
        let body_fits : stmt_fits t.body ≡ true =
        subst (λ (u : Task). stmt_fits u.body ≡ true) (get_or_from_slice_get m.tasks a.site t t found)
        (All-get_or (λ (u : Task). stmt_fits u.body ≡ true) m.tasks a.site t (slice_get_within m.tasks a.site t found) fits.tasks) in
        let s = state_of (bound_round t a.captured) (item_lists a.claims inputs) in
        outcome-ints t.mark.line a.claims (run (in_function m.file) t.body s budget)
        (run-fits (in_function m.file) fits.file t.body body_fits s budget (begins t a inputs caught small h))

    by : (o : Option Main) → main_of p ≡ o → AreInts (outcome_in o a inputs budget).outputs
    by None found = refl
    by (Some m) found = by_task m (main-fits p [] m refl (programs p leveled) found) (slice_get m.tasks a.site) refl
