-- Bodies keep numbers that stand for 32 bits `int`s.
use Rattle.std.proofs.Common.{◌≡◌, ℕ, zero, suc, ◌^◌, ◌≤◌, ◌==◌, Bool, true, false, ◌&&◌, if◌then◌else◌, List, [], ◌∷◌, length, drop, set, replicate, Option, Some, None, Ok, Err, ℤ, pos, negsuc, leb, refl, ap, ◌∙◌, arith}
use Rattle.std.specs.Prelude.{neg_ℤ, ◌-◌}
use Rattle.std.specs.List.{list_all}
use Rattle.std.proofs.lemmas.Bool.Decides.{nat_tests}
use Rattle.std.proofs.lemmas.List.{length-set, length-replicate}
use Rattle.c_int.specs.Operators.{is_int, is_zero}
use Rattle.c_int.proofs.Conversions.{is_int_bits}
use Rattle.c_int.specs.declared.control_limit.ControlLimit.{ControlLimit}
use Rattle.cddf_meaning.specs.Answers.{Answer, Left, and_then, with_turns}
use Rattle.cddf_meaning.specs.Claims.{limit}
use Rattle.cddf_meaning.specs.File.{File, type_in, variable}
use Rattle.cddf_meaning.specs.Fitting.{FileFits, GivesInt, RanFits, StateFits, bound_fits, change_fits, declarators_fit, elements_fit, index_fits, items_fit, numbers_fit, start_fits, step_fits, stmt_fits, stmts_fit, target_fits, value_fits, variable_fits}
use Rattle.cddf_meaning.specs.Flow.{Ran, Went, Ended, Runs, flows, with_value, goes_on, left_from, loops}
use Rattle.cddf_meaning.specs.Functions.{bind_params, call_function, empty_file, file_of, in_function, item_variable, returned, with_item, with_items}
use Rattle.cddf_meaning.specs.Operators.{binary_answer, step_operator}
use Rattle.cddf_meaning.specs.Run.{Around, after_store, aim_at, array_size, assigned, changed, loop, old_value, run, run_all, run_array, run_change, run_declarator, run_declarators, run_scalar, run_start, run_step, run_streams, run_test, run_unsized_or, run_window, target_type, window_size, with_streams}
use Rattle.cddf_meaning.specs.BodyState.{BodyState, declared, item_elements, state_of, stored, stored_in, stored_in_at, with_element}
use Rattle.cddf_meaning.specs.Streams.{captured_by, cursor_move, items_claims, run_task, run_tick, stream_number, task_number, tick_turn, unless_limited, with_activation}
use Rattle.cddf_meaning.specs.Value.{call_value, elements, value, values}
use Rattle.cddf_meaning.specs.Variables.{assign, bind, find}
use Rattle.cddf_meaning.specs.declared.aim.Aim.{Aim}
use Rattle.cddf_meaning.specs.declared.aim.Aim.TheVariants.{Name, Element}
use Rattle.cddf_meaning.specs.declared.flow.Flow.TheVariants.{GoesOn, Breaks, Continues, Returns}
use Rattle.cddf_meaning.specs.declared.site.Site.{Site}
use Rattle.cddf_meaning.specs.declared.variable.Binding.{Binding}
use Rattle.cddf_meaning.specs.declared.variable.Variable.TheVariants.{Constant, Function, Scalar, Array, Window, Stream, Item}
use Rattle.cddf_meaning.specs.declared.variable.Variable.{Variable}
use Rattle.os_ast.specs.Notes.Programs.{param_list}
use Rattle.os_ast.specs.ClauseMembers.{ClauseMember, members}
use Rattle.os_ast.specs.Trees as tree
use Rattle.os_ast.specs.Unsigned.{is_unsigned}
use Rattle.os_ast.specs.declared.expr.Mark.{Mark}
use Rattle.os_ast.specs.declared.program.Param.{Param}
use Rattle.os_ast.specs.declared.stmt.Assign.{Assign}
use Rattle.os_ast.specs.declared.stmt.Assign.TheVariants as assign_of
use Rattle.cddf_meaning.proofs.TypedResults.{IntAnswer, binary-int}
use Rattle.cddf_meaning.proofs.TypedValues.{Fits, both, elements-fit, find-fits, get-fits, in-file, ints, item-fits, scalar-int, value-agrees}

pub joined : (a b : Bool) → a ≡ true → b ≡ true → (a && b) ≡ true
joined true b h k = k
joined false b h k = absurd (cc)

-- lists that are changed
set-all : {A : Type 0} (test : A → Bool) (xs : List A) (k : ℕ) (x : A) → list_all test xs ≡ true → test x ≡ true → list_all test (set xs k x) ≡ true
set-all test [] k x h i = refl
set-all test (y ∷ ys) zero x h i = joined (test x) (list_all test ys) i (both (test y) (list_all test ys) h).1
set-all test (y ∷ ys) (suc k) x h i =
    let fits = both (test y) (list_all test ys) h in
    joined (test y) (list_all test (set ys k x)) fits.0 (set-all test ys k x fits.1 i)

drop-all : {A : Type 0} (test : A → Bool) (n : ℕ) (xs : List A) → list_all test xs ≡ true → list_all test (drop n xs) ≡ true
drop-all test zero xs h = h
drop-all test (suc n) [] h = refl
drop-all test (suc n) (x ∷ xs) h = drop-all test n xs (both (test x) (list_all test xs) h).1

replicate-all : {A : Type 0} (test : A → Bool) (n : ℕ) (x : A) → test x ≡ true → list_all test (replicate n x) ≡ true
replicate-all test zero x h = refl
replicate-all test (suc n) x h = joined (test x) (list_all test (replicate n x)) h (replicate-all test n x h)

few : (n : ℕ) → n ≤ 65536 → leb n (2 ^ 31) ≡ true
few n l = grind (arith, nat_tests)

set-fits : (vs : List ℤ) (k : ℕ) (v : ℤ) → elements_fit vs ≡ true → is_int v ≡ true → elements_fit (set vs k v) ≡ true
set-fits vs k v h i =
    let fits = both (leb (length vs) (2 ^ 31)) (list_all is_int vs) h in
    joined (leb (length (set vs k v)) (2 ^ 31)) (list_all is_int (set vs k v)) (ap (λ n. leb n (2 ^ 31)) (length-set vs k v) ∙ fits.0)
    (set-all is_int vs k v fits.1 i)

size-few : (v : ℤ) → array_size v ≤ 65536
size-few (pos n) = by (leb 1 n) (leb n 65536) refl refl
  where
    by : (a b : Bool) → leb 1 n ≡ a → leb n 65536 ≡ b → array_size (pos n) ≤ 65536
    by true true p q = rw (p, q) (grind (arith, nat_tests))
    by true false p q = rw (p, q) (omega arith)
    by false b p q = rw p (omega arith)
size-few (negsuc n) = omega arith

zeros-fit : (n : ℕ) → n ≤ 65536 → elements_fit (replicate n (pos 0)) ≡ true
zeros-fit n l =
    joined (leb (length (replicate n (pos 0))) (2 ^ 31)) (list_all is_int (replicate n (pos 0)))
    (ap (λ k. leb k (2 ^ 31)) (length-replicate n (pos 0)) ∙ few n l) (replicate-all is_int n (pos 0) refl)

-- a state that is changed
bound-in : (s : BodyState) → StateFits s → (bound : List Binding) → bound_fits bound ≡ true → StateFits (record s { bound = bound })
bound-in s f bound h = record { variables = h; items = f.items }

declared-fits : (id : ℕ) (w : Bool) (v : Variable) (s : BodyState) → StateFits s → variable_fits v ≡ true → StateFits (declared id w v s)
declared-fits id w v s f h = record { variables = joined (variable_fits v) (bound_fits s.bound) h f.variables; items = f.items }

assign-fits : (bound : List Binding) (id : ℕ) (v : Variable) → bound_fits bound ≡ true → variable_fits v ≡ true → bound_fits (assign bound id v) ≡ true
assign-fits [] id v h i = refl
assign-fits (b ∷ bound) id v h i =
    let fits = both (variable_fits b.variable) (bound_fits bound) h in
    chosen (b.id == id) b (bind b.id b.unsigned v bound) (assign bound id v) fits.0
    (joined (variable_fits v) (bound_fits bound) i fits.1) (assign-fits bound id v fits.1 i)
  where
    chosen : (t : Bool) (b : Binding) (xs ys : List Binding) → variable_fits b.variable ≡ true → bound_fits xs ≡ true → bound_fits ys ≡ true →
        bound_fits (if t then xs else b ∷ ys) ≡ true
    chosen true b xs ys h f g = f
    chosen false b xs ys h f g = joined (variable_fits b.variable) (bound_fits ys) h g

element-fits : (s : BodyState) (item k : ℕ) (v : ℤ) → StateFits s → is_int v ≡ true → StateFits (with_element s item k v)
element-fits s item k v f h = record {
  variables = f.variables;
  items = set-all elements_fit s.items item (set (item_elements s item) k v) f.items (set-fits (item_elements s item) k v (item-fits s f item) h);
}

stored-fits : (o : Option Variable) (s : BodyState) (id : ℕ) (v : ℤ) → StateFits s → is_int v ≡ true → StateFits (stored_in o s id v)
stored-fits None s id v f h = f
stored-fits (Some (Constant c)) s id v f h = f
stored-fits (Some (Function place)) s id v f h = f
stored-fits (Some (Scalar old)) s id v f h = bound-in s f (assign s.bound id (Scalar v)) (assign-fits s.bound id (Scalar v) f.variables h)
stored-fits (Some (Array vs)) s id v f h = f
stored-fits (Some (Window horizon)) s id v f h = f
stored-fits (Some (Stream first count)) s id v f h = f
stored-fits (Some (Item item)) s id v f h = element-fits s item 0 v f h

stored-at-fits : (o : Option Variable) → Fits o → (s : BodyState) (id k : ℕ) (v : ℤ) → StateFits s → is_int v ≡ true → StateFits (stored_in_at o s id k v)
stored-at-fits None g s id k v f h = f
stored-at-fits (Some (Constant c)) g s id k v f h = f
stored-at-fits (Some (Function place)) g s id k v f h = f
stored-at-fits (Some (Scalar old)) g s id k v f h = f
stored-at-fits (Some (Array vs)) g s id k v f h =
    bound-in s f (assign s.bound id (Array (set vs k v))) (assign-fits s.bound id (Array (set vs k v)) f.variables (set-fits vs k v g h))
stored-at-fits (Some (Window horizon)) g s id k v f h = f
stored-at-fits (Some (Stream first count)) g s id k v f h = f
stored-at-fits (Some (Item item)) g s id k v f h = element-fits s item k v f h

after-fits : (s : BodyState) (aim : Aim) (v : ℤ) → StateFits s → is_int v ≡ true → StateFits (after_store s aim v)
after-fits s (Name id) v f h = stored-fits (find s.bound id) s id v f h
after-fits s (Element id k) v f h = stored-at-fits (find s.bound id) (find-fits s.bound id f.variables) s id k v f h

old-int : (file : File) → FileFits file → (s : BodyState) → StateFits s → (aim : Aim) → is_int (old_value file s aim) ≡ true
old-int file g s f (Name id) = scalar-int s f (variable file s id) (in-file file g id (find s.bound id) (find-fits s.bound id f.variables))
old-int file g s f (Element id k) =
    let vs = elements s (find s.bound id) in
    get-fits is_int vs k (pos 0) (ints vs (elements-fit s f (find s.bound id) (find-fits s.bound id f.variables))) refl

-- what follows
went : (s : BodyState) (turns : ℕ) → StateFits s → RanFits (goes_on s turns)
went s turns f = (f, tt)

with_value-int : (a : Answer (Left ℤ)) (s : BodyState) (next : Left ℤ → Ran) → GivesInt a → ((n : Left ℤ) → is_int n.value ≡ true → RanFits (next n)) →
    RanFits (with_value a s next)
with_value-int (Ok n) s next h k = k n h
with_value-int (Err ending) s next h k = tt

with_value-any : {A : Type 0} (a : Answer A) (s : BodyState) (next : A → Ran) → ((x : A) → RanFits (next x)) → RanFits (with_value a s next)
with_value-any (Ok x) s next k = k x
with_value-any (Err ending) s next k = tt

ran-if : (t : Bool) (a b : Ran) → RanFits a → RanFits b → RanFits (if t then a else b)
ran-if true a b f g = f
ran-if false a b f g = g

flows-fit : (next : Runs) (r : Ran) → RanFits r → ((s : BodyState) (turns : ℕ) → StateFits s → RanFits (next s turns)) → RanFits (flows next r)
flows-fit next (Ended ending acts) f k = tt
flows-fit next (Went GoesOn s turns) f k = k s turns f.0
flows-fit next (Went Breaks s turns) f k = f
flows-fit next (Went Continues s turns) f k = f
flows-fit next (Went (Returns v) s turns) f k = f

loops-fit : (next : Runs) (r : Ran) → RanFits r → ((s : BodyState) (turns : ℕ) → StateFits s → RanFits (next s turns)) → RanFits (loops next r)
loops-fit next (Ended ending acts) f k = tt
loops-fit next (Went GoesOn s turns) f k = k s turns f.0
loops-fit next (Went Breaks s turns) f k = (f.0, tt)
loops-fit next (Went Continues s turns) f k = k s turns f.0
loops-fit next (Went (Returns v) s turns) f k = f

left-fits : (outer : BodyState) (r : Ran) → RanFits r → RanFits (left_from outer r)
left-fits outer (Ended ending acts) f = tt
left-fits outer (Went flow s turns) (f, g) =
    (record { variables = drop-all (λ (b : Binding). variable_fits b.variable) (length s.bound - length outer.bound) s.bound f.variables; items = f.items }, g)

abbrev RunsFit : Runs → Type 0
RunsFit r = (s : BodyState) (turns : ℕ) → StateFits s → RanFits (r s turns)

loop-fits : (most : ℕ) (test : BodyState → ℕ → Answer (Left ℤ)) (body step : Runs) → RunsFit body → RunsFit step → RunsFit (loop most test body step)
loop-fits most test body step f g s zero h = tt
loop-fits zero test body step f g s (suc turns) h = tt
loop-fits (suc most) test body step f g s (suc turns) h =
    let again : Runs = λ s turns. flows (loop most test body step) (step s turns) in
    with_value-any (test s turns) s (λ n. if is_zero n.value then goes_on s n.turns else loops again (body s n.turns))
    (λ n. ran-if (is_zero n.value) (goes_on s n.turns) (loops again (body s n.turns)) (went s n.turns h)
    (loops-fit again (body s n.turns) (f s n.turns h)
    (λ t left k. flows-fit (loop most test body step) (step t left) (g t left k) (loop-fits most test body step f g))))

-- changes
with-int : (turns : ℕ) (a : Answer ℤ) → IntAnswer a → GivesInt (with_turns turns a)
with-int turns (Ok v) h = h
with-int turns (Err ending) h = tt

then-int : (a : Answer (Left ℤ)) (next : Left ℤ → Answer (Left ℤ)) → GivesInt a → ((n : Left ℤ) → is_int n.value ≡ true → GivesInt (next n)) →
    GivesInt (and_then a next)
then-int (Ok n) next h k = k n h
then-int (Err ending) next h k = tt

assigned-int : (a : Assign) (line : ℕ) (t r : Bool) (old new : ℤ) → is_int old ≡ true → is_int new ≡ true → IntAnswer (assigned a line t r old new)
assigned-int assign_of.Plain line t r old new h k = k
assigned-int (assign_of.With op) line t r old new h k = binary-int op line t r old new h k

changed-fits : (file : File) → FileFits file → (t : tree.TargetTree) (right : ℤ → BodyState → ℕ → Answer (Left ℤ)) →
    ((old : ℤ) (s : BodyState) (turns : ℕ) → StateFits s → is_int old ≡ true → GivesInt (right old s turns)) → RunsFit (changed file t right)
changed-fits file g t right k s turns f =
    with_value-any (aim_at file t s turns) s
    (λ a. with_value (right (old_value file s a.value) s a.turns) s (λ v. goes_on (after_store s a.value v.value) v.turns))
    (λ a. with_value-int (right (old_value file s a.value) s a.turns) s (λ v. goes_on (after_store s a.value v.value) v.turns)
    (k (old_value file s a.value) s a.turns f (old-int file g s f a.value))
    (λ v h. went (after_store s a.value v.value) v.turns (after-fits s a.value v.value f h)))

value-int : (file : File) → FileFits file → (e : tree.ExprTree) → numbers_fit e ≡ true → (s : BodyState) (turns : ℕ) → StateFits s → GivesInt (value file e s turns)
value-int file g e h s turns f = (value-agrees file g e s f h turns).int

change-fits : (file : File) → FileFits file → (c : tree.ChangeTree) → change_fits c ≡ true → RunsFit (run_change file c)
change-fits file g (tree.Set t a m e) h =
    let fits = both (target_fits t) (numbers_fit e) h in
    changed-fits file g t
    (λ old s turns. and_then (value file e s turns) (λ n. with_turns n.turns (assigned a m.line (target_type file s t) (type_in file s e) old n.value)))
    (λ old s turns f o. then-int (value file e s turns)
    (λ n. with_turns n.turns (assigned a m.line (target_type file s t) (type_in file s e) old n.value)) (value-int file g e fits.1 s turns f)
    (λ n i. with-int n.turns (assigned a m.line (target_type file s t) (type_in file s e) old n.value)
    (assigned-int a m.line (target_type file s t) (type_in file s e) old n.value o i)))
change-fits file g (tree.After t p m) h =
    changed-fits file g t (λ old s turns. with_turns turns (binary_answer (step_operator p) m.line (target_type file s t) false old (pos 1)))
    (λ old s turns f o. with-int turns (binary_answer (step_operator p) m.line (target_type file s t) false old (pos 1))
    (binary-int (step_operator p) m.line (target_type file s t) false old (pos 1) o refl))
change-fits file g (tree.Before t p m) h =
    changed-fits file g t (λ old s turns. with_turns turns (binary_answer (step_operator p) m.line (target_type file s t) false old (pos 1)))
    (λ old s turns f o. with-int turns (binary_answer (step_operator p) m.line (target_type file s t) false old (pos 1))
    (binary-int (step_operator p) m.line (target_type file s t) false old (pos 1) o refl))

-- declarations
scalar-fits : (file : File) → FileFits file → (w : Bool) (id : ℕ) (first : Option tree.ExprTree) → value_fits first ≡ true → RunsFit (run_scalar file w id first)
scalar-fits file g w id None h s turns f = went (declared id w (Scalar (pos 0)) s) turns (declared-fits id w (Scalar (pos 0)) s f refl)
scalar-fits file g w id (Some e) h s turns f =
    let inner = declared id w (Scalar (pos 0)) s in
    let fits = declared-fits id w (Scalar (pos 0)) s f refl in
    with_value-int (value file e inner turns) inner (λ n. goes_on (stored inner id n.value) n.turns) (value-int file g e h inner turns fits)
    (λ n i. went (stored inner id n.value) n.turns (stored-fits (find inner.bound id) inner id n.value fits i))

streams-in : (id : ℕ) (w : Bool) (count : ℕ) (s : BodyState) → StateFits s → StateFits (with_streams id w count s)
streams-in id w count s f = record { variables = f.variables; items = f.items }

streams-fit : (file : File) (w : Bool) (id : ℕ) (size : Option tree.IndexTree) → RunsFit (run_streams file w id size)
streams-fit file w id None s turns f = went (with_streams id w 1 s) turns (streams-in id w 1 s f)
streams-fit file w id (Some i) s turns f =
    with_value-any (value file i.value s turns) s (λ n. goes_on (with_streams id w (array_size n.value) s) n.turns)
    (λ n. went (with_streams id w (array_size n.value) s) n.turns (streams-in id w (array_size n.value) s f))

window-fits : (file : File) (w : Bool) (id : ℕ) (i : tree.IndexTree) → RunsFit (run_window file w id i)
window-fits file w id i s turns f =
    with_value-any (value file i.value s turns) s
    (λ n. with_value (window_size i.mark.line n.value) s (λ horizon. goes_on (declared id w (Window horizon) s) n.turns))
    (λ n. with_value-any (window_size i.mark.line n.value) s (λ horizon. goes_on (declared id w (Window horizon) s) n.turns)
    (λ horizon. went (declared id w (Window horizon) s) n.turns (declared-fits id w (Window horizon) s f refl)))

array-fits : (file : File) (w : Bool) (id : ℕ) (size : tree.ExprTree) → RunsFit (run_array file w id size)
array-fits file w id size s turns f =
    with_value-any (value file size s turns) s (λ n. goes_on (declared id w (Array (replicate (array_size n.value) (pos 0))) s) n.turns)
    (λ n. went (declared id w (Array (replicate (array_size n.value) (pos 0))) s) n.turns
    (declared-fits id w (Array (replicate (array_size n.value) (pos 0))) s f (zeros-fit (array_size n.value) (size-few n.value))))

either-fits : (t : Bool) (a b : Runs) → RunsFit a → RunsFit b → RunsFit (if t then a else b)
either-fits true a b f g = f
either-fits false a b f g = g

unsized-fits : (u : Around) → FileFits u.file → (w : Bool) (d : tree.DeclaratorTree) (size : Option tree.IndexTree) → value_fits d.first ≡ true →
    RunsFit (run_unsized_or u w d size)
unsized-fits u g w d None h = scalar-fits u.file g w d.name.id d.first h
unsized-fits u g w d (Some i) h =
    either-fits u.is_control (run_window u.file w d.name.id i) (run_array u.file w d.name.id i.value)
    (window-fits u.file w d.name.id i) (array-fits u.file w d.name.id i.value)

declarator-fits : (u : Around) → FileFits u.file → (w : Bool) (d : tree.DeclaratorTree) → value_fits d.first ≡ true → RunsFit (run_declarator u w d)
declarator-fits u g w d h =
    either-fits d.stream (run_streams u.file w d.name.id d.size) (run_unsized_or u w d d.size)
    (streams-fit u.file w d.name.id d.size) (unsized-fits u g w d d.size h)

declarators-run : (u : Around) → FileFits u.file → (w : Bool) (ds : List tree.DeclaratorTree) → declarators_fit ds ≡ true → RunsFit (run_declarators u w ds)
declarators-run u g w [] h s turns f = went s turns f
declarators-run u g w (d ∷ ds) h s turns f =
    let fits = both (index_fits d.size && value_fits d.first) (declarators_fit ds) h in
    let one = both (index_fits d.size) (value_fits d.first) fits.0 in
    flows-fit (run_declarators u w ds) (run_declarator u w d s turns) (declarator-fits u g w d one.1 s turns f) (declarators-run u g w ds fits.1)

start-run : (u : Around) → FileFits u.file → (a : tree.StartTree) → start_fits a ≡ true → RunsFit (run_start u a)
start-run u g tree.StartTree.Empty h s turns f = went s turns f
start-run u g (tree.StartTree.Declare ty ds) h s turns f = declarators-run u g (is_unsigned ty) ds h s turns f
start-run u g (tree.StartTree.Change c) h s turns f = change-fits u.file g c h s turns f

step-run : (file : File) → FileFits file → (step : Option tree.ChangeTree) → step_fits step ≡ true → RunsFit (run_step file step)
step-run file g None h s turns f = went s turns f
step-run file g (Some c) h s turns f = change-fits file g c h s turns f

-- streams
limited-fits : (l : Option ControlLimit) (s next : BodyState) (turns : ℕ) → StateFits next → RanFits (unless_limited l s turns next)
limited-fits None s next turns f = went next turns f
limited-fits (Some n) s next turns f = tt

task-run : (file : File) (sites : List Site) (number : Option ℕ) (ps : List ClauseMember) → RunsFit (run_task file sites number ps)
task-run file sites None ps s turns f = went s turns f
task-run file sites (Some number) ps s turns f =
    with_value-any (items_claims file ps s turns) s
    (λ c. unless_limited (limit s.activations c.value) s c.turns (with_activation file number (captured_by sites number) c.value s))
    (λ c. limited-fits (limit s.activations c.value) s (with_activation file number (captured_by sites number) c.value s) c.turns
    (record { variables = f.variables; items = f.items }))

turn-run : (stream amount : ℕ) → RunsFit (tick_turn stream amount)
turn-run stream amount s zero f = tt
turn-run stream amount s (suc turns) f = (record { variables = f.variables; items = f.items }, tt)

tick-run : (file : File) (t : tree.TargetTree) (arrow : Mark) (e : tree.ExprTree) → RunsFit (run_tick file t arrow e)
tick-run file t arrow e s turns f =
    with_value-any (stream_number file t s turns) s
    (λ n. with_value (value file e s n.turns) s (λ v. with_value (cursor_move arrow.line v.value) s (λ amount. tick_turn n.value amount s v.turns)))
    (λ n. with_value-any (value file e s n.turns) s (λ v. with_value (cursor_move arrow.line v.value) s (λ amount. tick_turn n.value amount s v.turns))
    (λ v. with_value-any (cursor_move arrow.line v.value) s (λ amount. tick_turn n.value amount s v.turns) (λ amount. turn-run n.value amount s v.turns f)))

mutual
  pub run-fits : (u : Around) → FileFits u.file → (a : tree.StmtTree) → stmt_fits a ≡ true → RunsFit (run u a)
  run-fits u g tree.StmtTree.Empty h s turns f = went s turns f
  run-fits u g (tree.Block ss) h s turns f = left-fits s (run_all u ss s turns) (all-fit u g ss h s turns f)
  run-fits u g (tree.StmtTree.Declare ty ds) h s turns f = declarators-run u g (is_unsigned ty) ds h s turns f
  run-fits u g (tree.StmtTree.Change c) h s turns f = change-fits u.file g c h s turns f
  run-fits u g (tree.StmtTree.Call n args) h s turns f =
      with_value-any (and_then (values u.file args s turns) (call_value u.file.calls (variable u.file s n.id))) s (λ n. goes_on s n.turns) (λ n. went s n.turns f)
  run-fits u g (tree.If c a) h s turns f =
      let fits = both (numbers_fit c) (stmt_fits a) h in
      with_value-any (value u.file c s turns) s (λ n. if is_zero n.value then goes_on s n.turns else run u a s n.turns)
      (λ n. ran-if (is_zero n.value) (goes_on s n.turns) (run u a s n.turns) (went s n.turns f) (run-fits u g a fits.1 s n.turns f))
  run-fits u g (tree.IfElse c a b) h s turns f =
      let fits = both (numbers_fit c) (stmt_fits a && stmt_fits b) h in
      let branches = both (stmt_fits a) (stmt_fits b) fits.1 in
      with_value-any (value u.file c s turns) s (λ n. if is_zero n.value then run u b s n.turns else run u a s n.turns)
      (λ n. ran-if (is_zero n.value) (run u b s n.turns) (run u a s n.turns) (run-fits u g b branches.1 s n.turns f) (run-fits u g a branches.0 s n.turns f))
  run-fits u g (tree.While c a) h s turns f =
      let fits = both (numbers_fit c) (stmt_fits a) h in
      loop-fits turns (value u.file c) (run u a) goes_on (run-fits u g a fits.1) went s turns f
  run-fits u g (tree.For start test step a) h s turns f =
      let fits = both (start_fits start && value_fits test) (step_fits step && stmt_fits a) h in
      let head = both (start_fits start) (value_fits test) fits.0 in
      let rest = both (step_fits step) (stmt_fits a) fits.1 in
      left-fits s (flows (λ inner left. loop left (run_test u.file test) (run u a) (run_step u.file step) inner left) (run_start u start s turns))
      (flows-fit (λ inner left. loop left (run_test u.file test) (run u a) (run_step u.file step) inner left) (run_start u start s turns)
      (start-run u g start head.0 s turns f)
      (λ inner left k. loop-fits left (run_test u.file test) (run u a) (run_step u.file step) (run-fits u g a rest.1) (step-run u.file g step rest.0) inner left k))
  run-fits u g (tree.Break m) h s turns f = (f, tt)
  run-fits u g (tree.Continue m) h s turns f = (f, tt)
  run-fits u g (tree.Return m e) h s turns f =
      with_value-int (value u.file e s turns) s (λ n. Went (Returns n.value) s n.turns) (value-int u.file g e h s turns f) (λ n i. (f, i))
  run-fits u g (tree.Task m cs a) h s turns f = task-run u.file u.sites (task_number u.sites m) (members cs) s turns f
  run-fits u g (tree.Tick m t arrow e) h s turns f = tick-run u.file t arrow e s turns f
  run-fits u g (tree.Taskwait m) h s turns f = went s turns f

  pub all-fit : (u : Around) → FileFits u.file → (ss : tree.Stmts) → stmts_fit ss ≡ true → RunsFit (run_all u ss)
  all-fit u g tree.no_stmts h s turns f = went s turns f
  all-fit u g (tree.stmt a rest) h s turns f =
      let fits = both (stmt_fits a) (stmts_fit rest) h in
      flows-fit (run_all u rest) (run u a s turns) (run-fits u g a fits.0 s turns f) (all-fit u g rest fits.1)

-- functions
params-fit : (ps : List Param) (vs : List ℤ) (bound : List Binding) → list_all is_int vs ≡ true → bound_fits bound ≡ true →
    bound_fits (bind_params ps vs bound) ≡ true
params-fit [] vs bound h i = i
params-fit (p ∷ ps) [] bound h i = params-fit ps [] (bind p.name.id (is_unsigned p.ty) (Scalar (pos 0)) bound) h i
params-fit (p ∷ ps) (v ∷ vs) bound h i =
    let fits = both (is_int v) (list_all is_int vs) h in
    params-fit ps vs (bind p.name.id (is_unsigned p.ty) (Scalar v) bound) fits.1 (joined (is_int v) (bound_fits bound) fits.0 i)

returned-int : (r : Ran) → RanFits r → GivesInt (returned r)
returned-int (Ended ending acts) f = tt
returned-int (Went GoesOn s turns) f = refl
returned-int (Went Breaks s turns) f = refl
returned-int (Went Continues s turns) f = refl
returned-int (Went (Returns v) s turns) f = f.1

called-int : (file : File) → FileFits file → (f : tree.FunctionTree) → stmts_fit f.body ≡ true → (args : List ℤ) (turns : ℕ) → list_all is_int args ≡ true →
    GivesInt (call_function file f args turns)
called-int file g f h args zero i = tt
called-int file g f h args (suc turns) i =
    let s = state_of (bind_params (param_list f.params) args []) [] in
    returned-int (run_all (in_function file) f.body s turns)
    (all-fit (in_function file) g f.body h s turns (record { variables = params-fit (param_list f.params) args [] i refl; items = refl }))

int-if : (t : Bool) (a b : Answer (Left ℤ)) → GivesInt a → GivesInt b → GivesInt (if t then a else b)
int-if true a b f g = f
int-if false a b f g = g

constant-fits : (file : File) (i : tree.ItemTree) → variable_fits (item_variable file.count i) ≡ true
constant-fits file (tree.Constant c) = is_int_bits (if c.minus then neg_ℤ (pos c.size) else pos c.size)
constant-fits file (tree.Function f) = refl

item-in : (file : File) → FileFits file → (i : tree.ItemTree) → items_fit (i ∷ []) ≡ true → FileFits (with_item file i)
item-in file g (tree.Constant c) h = record {
  constants = joined (variable_fits (item_variable file.count (tree.Constant c))) (bound_fits file.names) (constant-fits file (tree.Constant c)) g.constants;
  calls = g.calls;
}
item-in file g (tree.Function f) h = record {
  constants = g.constants;
  calls = λ n args turns i. int-if (n == file.count) (call_function file f args turns) (file.calls n args turns)
      (called-int file g f (both (stmts_fit f.body) true h).0 args turns i) (g.calls n args turns i);
}

items-in : (file : File) → FileFits file → (is : List tree.ItemTree) → items_fit is ≡ true → FileFits (with_items file is)
items-in file g [] h = g
items-in file g (tree.Constant c ∷ is) h = items-in (with_item file (tree.Constant c)) (item-in file g (tree.Constant c) refl) is h
items-in file g (tree.Function f ∷ is) h =
    let fits = both (stmts_fit f.body) (items_fit is) h in
    items-in (with_item file (tree.Function f)) (item-in file g (tree.Function f) (joined (stmts_fit f.body) true fits.0 refl)) is fits.1

pub file-fits : (is : List tree.ItemTree) → items_fit is ≡ true → FileFits (file_of is)
file-fits is h = items-in empty_file (record { constants = refl; calls = λ n args turns i. tt }) is h
