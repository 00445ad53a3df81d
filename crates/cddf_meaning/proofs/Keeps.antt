-- Turns never grow in a statement, and items keep their lengths.
use Rattle.std.proofs.Common.{◌≡◌, ℕ, zero, suc, ◌+◌, ◌≤◌, Bool, true, false, if◌then◌else◌, List, [], ◌∷◌, length, map, get_or, set, replicate, Option, Some, None, Ok, Err, ℤ, pos, arith, refl, ap, ◌∙◌}
use Rattle.std.proofs.lemmas.List.{length-set}
use Rattle.c_int.specs.Operators.{is_zero}
use Rattle.c_int.specs.declared.control_limit.ControlLimit.{ControlLimit}
use Rattle.cddf_meaning.specs.Answers.{Answer, Left, and_then, left, with_turns}
use Rattle.cddf_meaning.specs.Claims.{limit}
use Rattle.cddf_meaning.specs.File.{File, variable, type_in}
use Rattle.cddf_meaning.specs.Flow.{Ran, Went, Ended, Runs, with_value, goes_on, flows, loops, left_from}
use Rattle.cddf_meaning.specs.Moves.{Falls, CallsFall, Keeps, item_lengths}
use Rattle.cddf_meaning.specs.Operators.{binary_answer, step_operator}
use Rattle.cddf_meaning.specs.Run.{Around, loop, assigned, aim_at, old_value, after_store, changed, run_change, run_scalar, run_array, run_window, window_size, with_streams, run_streams, run_unsized_or, run_declarator, run_declarators, run_start, run_test, run_step, run, run_all, array_size, target_type}
use Rattle.cddf_meaning.specs.BodyState.{BodyState, declared, stored, stored_in, stored_in_at, with_element}
use Rattle.cddf_meaning.specs.Streams.{stream_number, first_stream, stream_count, cursor_move, burst, burst_of, joined, item_claim, items_claims, claim_of, horizon_of, run_task, run_tick, tick_turn, unless_limited, with_activation, captured_by, task_number}
use Rattle.cddf_meaning.specs.Value.{value, values, checked, elements, call_value}
use Rattle.cddf_meaning.specs.Variables.{find}
use Rattle.cddf_meaning.specs.declared.aim.Aim.{Aim}
use Rattle.cddf_meaning.specs.declared.aim.Aim.TheVariants.{Name, Element}
use Rattle.cddf_meaning.specs.declared.flow.Flow.TheVariants.{GoesOn, Breaks, Continues, Returns}
use Rattle.cddf_meaning.specs.declared.site.Site.{Site}
use Rattle.cddf_meaning.specs.declared.variable.Variable.{Variable}
use Rattle.cddf_meaning.specs.declared.variable.Variable.TheVariants.{Constant, Function, Scalar, Array, Window, Stream, Item}
use Rattle.os_ast.specs.ClauseMembers as clause
use Rattle.os_ast.specs.ClauseMembers.{members}
use Rattle.os_ast.specs.Trees as tree
use Rattle.os_ast.specs.declared.expr.Mark.{Mark}
use Rattle.os_ast.specs.declared.names.Direction.{Direction}
use Rattle.cddf_meaning.proofs.Falls.{falls-then, falls-with, value-falls, values-falls, call-falls}
use Rattle.os_ast.specs.Unsigned.{is_unsigned}

keeps-less : (s : BodyState) (turns less : ℕ) (r : Ran) → less ≤ turns → Keeps s less r → Keeps s turns r
keeps-less s turns less (Ended ending acts) h k = tt
keeps-less s turns less (Went flow t left) h (a, b) = (omega (arith, h, a), b)

keeps-from : (s t : BodyState) (turns less : ℕ) (r : Ran) → less ≤ turns → item_lengths t ≡ item_lengths s → Keeps t less r → Keeps s turns r
keeps-from s t turns less (Ended ending acts) h e k = tt
keeps-from s t turns less (Went flow u left) h e (a, b) = (omega (arith, h, a), b ∙ e)

-- where a state has the same items
pub keeps-on : (s t : BodyState) (turns : ℕ) → item_lengths t ≡ item_lengths s → Keeps s turns (goes_on t turns)
keeps-on s t turns e = (omega arith, e)

with_value-left : {A : Type 0} (s : BodyState) (turns : ℕ) (a : Answer (Left A)) (next : Left A → Ran) → Falls turns a →
    ((n : Left A) → Keeps s n.turns (next n)) → Keeps s turns (with_value a s next)
with_value-left s turns (Err ending) next f k = tt
with_value-left s turns (Ok n) next f k = keeps-less s turns n.turns (next n) f (k n)

with_value-plain : {A : Type 0} (s : BodyState) (turns : ℕ) (a : Answer A) (next : A → Ran) → ((v : A) → Keeps s turns (next v)) →
    Keeps s turns (with_value a s next)
with_value-plain s turns (Err ending) next k = tt
with_value-plain s turns (Ok v) next k = k v

flows-keeps : (s : BodyState) (turns : ℕ) (next : Runs) (r : Ran) → Keeps s turns r → ((t : BodyState) (left : ℕ) → Keeps t left (next t left)) →
    Keeps s turns (flows next r)
flows-keeps s turns next (Ended ending acts) k rest = tt
flows-keeps s turns next (Went GoesOn t left) (a, b) rest = keeps-from s t turns left (next t left) a b (rest t left)
flows-keeps s turns next (Went Breaks t left) k rest = k
flows-keeps s turns next (Went Continues t left) k rest = k
flows-keeps s turns next (Went (Returns v) t left) k rest = k

loops-keeps : (s : BodyState) (turns : ℕ) (next : Runs) (r : Ran) → Keeps s turns r → ((t : BodyState) (left : ℕ) → Keeps t left (next t left)) →
    Keeps s turns (loops next r)
loops-keeps s turns next (Ended ending acts) k rest = tt
loops-keeps s turns next (Went GoesOn t left) (a, b) rest = keeps-from s t turns left (next t left) a b (rest t left)
loops-keeps s turns next (Went Breaks t left) k rest = k
loops-keeps s turns next (Went Continues t left) (a, b) rest = keeps-from s t turns left (next t left) a b (rest t left)
loops-keeps s turns next (Went (Returns v) t left) k rest = k

left-keeps : (s outer : BodyState) (turns : ℕ) (r : Ran) → Keeps s turns r → Keeps s turns (left_from outer r)
left-keeps s outer turns (Ended ending acts) k = tt
left-keeps s outer turns (Went flow t left) k = k

keeps-if : (t : Bool) (s : BodyState) (turns : ℕ) (a b : Ran) → Keeps s turns a → Keeps s turns b → Keeps s turns (if t then a else b)
keeps-if true s turns a b f g = f
keeps-if false s turns a b f g = g

-- a list that is changed keeps the lengths of its lists
lengths-set : (xss : List (List ℤ)) (i : ℕ) (ys : List ℤ) → length ys ≡ length (get_or xss i []) → map length (set xss i ys) ≡ map length xss
lengths-set [] i ys h = refl
lengths-set (xs ∷ xss) zero ys h = ap (λ n. n ∷ map length xss) h
lengths-set (xs ∷ xss) (suc i) ys h = ap (λ ns. length xs ∷ ns) (lengths-set xss i ys h)

element-keeps : (s : BodyState) (item k : ℕ) (v : ℤ) → item_lengths (with_element s item k v) ≡ item_lengths s
element-keeps s item k v = lengths-set s.items item (set (get_or s.items item []) k v) (length-set (get_or s.items item []) k v)

stored_in-keeps : (found : Option Variable) (s : BodyState) (id : ℕ) (v : ℤ) → item_lengths (stored_in found s id v) ≡ item_lengths s
stored_in-keeps (Some (Item item)) s id v = element-keeps s item 0 v
stored_in-keeps (Some (Scalar old)) s id v = refl
stored_in-keeps (Some (Constant c)) s id v = refl
stored_in-keeps (Some (Function f)) s id v = refl
stored_in-keeps (Some (Array vs)) s id v = refl
stored_in-keeps (Some (Window h)) s id v = refl
stored_in-keeps (Some (Stream first count)) s id v = refl
stored_in-keeps None s id v = refl

stored_in_at-keeps : (found : Option Variable) (s : BodyState) (id k : ℕ) (v : ℤ) → item_lengths (stored_in_at found s id k v) ≡ item_lengths s
stored_in_at-keeps (Some (Item item)) s id k v = element-keeps s item k v
stored_in_at-keeps (Some (Scalar old)) s id k v = refl
stored_in_at-keeps (Some (Constant c)) s id k v = refl
stored_in_at-keeps (Some (Function f)) s id k v = refl
stored_in_at-keeps (Some (Array vs)) s id k v = refl
stored_in_at-keeps (Some (Window h)) s id k v = refl
stored_in_at-keeps (Some (Stream first count)) s id k v = refl
stored_in_at-keeps None s id k v = refl

after_store-keeps : (s : BodyState) (aim : Aim) (v : ℤ) → item_lengths (after_store s aim v) ≡ item_lengths s
after_store-keeps s (Name id) v = stored_in-keeps (find s.bound id) s id v
after_store-keeps s (Element id k) v = stored_in_at-keeps (find s.bound id) s id k v

aimed-falls : (a : Answer ℕ) (id turns : ℕ) → Falls turns (and_then a (λ k. Ok (left (Element id k) turns)))
aimed-falls (Ok k) id turns = omega arith
aimed-falls (Err ending) id turns = tt

aim-falls : (file : File) → CallsFall file → (t : tree.TargetTree) (s : BodyState) (turns : ℕ) → Falls turns (aim_at file t s turns)
aim-falls file calls (tree.Variable n) s turns = omega arith
aim-falls file calls (tree.Element n m e) s turns =
    falls-then turns (value file e s turns)
    (λ i. and_then (checked (length (elements s (find s.bound n.id))) m.line i.value) (λ k. Ok (left (Element n.id k) i.turns)))
    (value-falls file calls e s turns)
    (λ i. aimed-falls (checked (length (elements s (find s.bound n.id))) m.line i.value) n.id i.turns)

changed-keeps : (file : File) → CallsFall file → (t : tree.TargetTree) (right : ℤ → BodyState → ℕ → Answer (Left ℤ)) →
    ((old : ℤ) (s : BodyState) (turns : ℕ) → Falls turns (right old s turns)) → (s : BodyState) (turns : ℕ) → Keeps s turns (changed file t right s turns)
changed-keeps file calls t right f s turns =
    with_value-left s turns (aim_at file t s turns)
    (λ a. with_value (right (old_value file s a.value) s a.turns) s (λ v. goes_on (after_store s a.value v.value) v.turns))
    (aim-falls file calls t s turns)
    (λ a. with_value-left s a.turns (right (old_value file s a.value) s a.turns) (λ v. goes_on (after_store s a.value v.value) v.turns)
    (f (old_value file s a.value) s a.turns)
    (λ v. keeps-on s (after_store s a.value v.value) v.turns (after_store-keeps s a.value v.value)))

change-keeps : (file : File) → CallsFall file → (c : tree.ChangeTree) (s : BodyState) (turns : ℕ) → Keeps s turns (run_change file c s turns)
change-keeps file calls (tree.Set t a m e) s turns =
    changed-keeps file calls t
    (λ old s turns. and_then (value file e s turns) (λ n. with_turns n.turns (assigned a m.line (target_type file s t) (type_in file s e) old n.value)))
    (λ old s turns. falls-then turns (value file e s turns) (λ n. with_turns n.turns (assigned a m.line (target_type file s t) (type_in file s e) old n.value))
    (value-falls file calls e s turns) (λ n. falls-with n.turns (assigned a m.line (target_type file s t) (type_in file s e) old n.value)))
    s turns
change-keeps file calls (tree.After t p m) s turns =
    changed-keeps file calls t (λ old s turns. with_turns turns (binary_answer (step_operator p) m.line (target_type file s t) false old (pos 1)))
    (λ old s turns. falls-with turns (binary_answer (step_operator p) m.line (target_type file s t) false old (pos 1))) s turns
change-keeps file calls (tree.Before t p m) s turns =
    changed-keeps file calls t (λ old s turns. with_turns turns (binary_answer (step_operator p) m.line (target_type file s t) false old (pos 1)))
    (λ old s turns. falls-with turns (binary_answer (step_operator p) m.line (target_type file s t) false old (pos 1))) s turns

scalar-keeps : (file : File) → CallsFall file → (w : Bool) (id : ℕ) (first : Option tree.ExprTree) (s : BodyState) (turns : ℕ) →
    Keeps s turns (run_scalar file w id first s turns)
scalar-keeps file calls w id None s turns = keeps-on s (declared id w (Scalar (pos 0)) s) turns refl
scalar-keeps file calls w id (Some e) s turns =
    let inner = declared id w (Scalar (pos 0)) s in
    with_value-left inner turns (value file e inner turns) (λ n. goes_on (stored inner id n.value) n.turns) (value-falls file calls e inner turns)
    (λ n. keeps-on inner (stored inner id n.value) n.turns (stored_in-keeps (find inner.bound id) inner id n.value))

-- one value, and then a state with the same items
valued-keeps : (file : File) → CallsFall file → (e : tree.ExprTree) (s : BodyState) (turns : ℕ) (next : Left ℤ → Ran) →
    ((n : Left ℤ) → Keeps s n.turns (next n)) → Keeps s turns (with_value (value file e s turns) s next)
valued-keeps file calls e s turns next k = with_value-left s turns (value file e s turns) next (value-falls file calls e s turns) k

either-keeps : (t : Bool) (a b : Runs) → ((s : BodyState) (turns : ℕ) → Keeps s turns (a s turns)) →
    ((s : BodyState) (turns : ℕ) → Keeps s turns (b s turns)) → (s : BodyState) (turns : ℕ) → Keeps s turns ((if t then a else b) s turns)
either-keeps true a b f g s turns = f s turns
either-keeps false a b f g s turns = g s turns

streams-keeps : (file : File) → CallsFall file → (w : Bool) (id : ℕ) (size : Option tree.IndexTree) (s : BodyState) (turns : ℕ) →
    Keeps s turns (run_streams file w id size s turns)
streams-keeps file calls w id None s turns = keeps-on s (with_streams id w 1 s) turns refl
streams-keeps file calls w id (Some i) s turns =
    valued-keeps file calls i.value s turns (λ n. goes_on (with_streams id w (array_size n.value) s) n.turns)
    (λ n. keeps-on s (with_streams id w (array_size n.value) s) n.turns refl)

window-keeps : (file : File) → CallsFall file → (w : Bool) (id : ℕ) (i : tree.IndexTree) (s : BodyState) (turns : ℕ) → Keeps s turns (run_window file w id i s turns)
window-keeps file calls w id i s turns =
    valued-keeps file calls i.value s turns
    (λ n. with_value (window_size i.mark.line n.value) s (λ horizon. goes_on (declared id w (Window horizon) s) n.turns))
    (λ n. with_value-plain s n.turns (window_size i.mark.line n.value) (λ horizon. goes_on (declared id w (Window horizon) s) n.turns)
    (λ horizon. keeps-on s (declared id w (Window horizon) s) n.turns refl))

array-keeps : (file : File) → CallsFall file → (w : Bool) (id : ℕ) (size : tree.ExprTree) (s : BodyState) (turns : ℕ) → Keeps s turns (run_array file w id size s turns)
array-keeps file calls w id size s turns =
    valued-keeps file calls size s turns (λ n. goes_on (declared id w (Array (replicate (array_size n.value) (pos 0))) s) n.turns)
    (λ n. keeps-on s (declared id w (Array (replicate (array_size n.value) (pos 0))) s) n.turns refl)

unsized-keeps : (u : Around) → CallsFall u.file → (w : Bool) (d : tree.DeclaratorTree) (size : Option tree.IndexTree) (s : BodyState) (turns : ℕ) →
    Keeps s turns (run_unsized_or u w d size s turns)
unsized-keeps u calls w d None s turns = scalar-keeps u.file calls w d.name.id d.first s turns
unsized-keeps u calls w d (Some i) s turns =
    either-keeps u.is_control (run_window u.file w d.name.id i) (run_array u.file w d.name.id i.value)
    (window-keeps u.file calls w d.name.id i) (array-keeps u.file calls w d.name.id i.value) s turns

declarator-keeps : (u : Around) → CallsFall u.file → (w : Bool) (d : tree.DeclaratorTree) (s : BodyState) (turns : ℕ) → Keeps s turns (run_declarator u w d s turns)
declarator-keeps u calls w d s turns =
    either-keeps d.stream (run_streams u.file w d.name.id d.size) (run_unsized_or u w d d.size)
    (streams-keeps u.file calls w d.name.id d.size) (unsized-keeps u calls w d d.size) s turns

declarators-keeps : (u : Around) → CallsFall u.file → (w : Bool) (ds : List tree.DeclaratorTree) (s : BodyState) (turns : ℕ) →
    Keeps s turns (run_declarators u w ds s turns)
declarators-keeps u calls w [] s turns = keeps-on s s turns refl
declarators-keeps u calls w (d ∷ ds) s turns =
    flows-keeps s turns (run_declarators u w ds) (run_declarator u w d s turns) (declarator-keeps u calls w d s turns) (declarators-keeps u calls w ds)

start-keeps : (u : Around) → CallsFall u.file → (start : tree.StartTree) (s : BodyState) (turns : ℕ) → Keeps s turns (run_start u start s turns)
start-keeps u calls tree.StartTree.Empty s turns = keeps-on s s turns refl
start-keeps u calls (tree.StartTree.Declare ty ds) s turns = declarators-keeps u calls (is_unsigned ty) ds s turns
start-keeps u calls (tree.StartTree.Change c) s turns = change-keeps u.file calls c s turns

pub test-falls : (file : File) → CallsFall file → (test : Option tree.ExprTree) (s : BodyState) (turns : ℕ) → Falls turns (run_test file test s turns)
test-falls file calls None s turns = omega arith
test-falls file calls (Some e) s turns = value-falls file calls e s turns

pub step-keeps : (file : File) → CallsFall file → (step : Option tree.ChangeTree) (s : BodyState) (turns : ℕ) → Keeps s turns (run_step file step s turns)
step-keeps file calls None s turns = keeps-on s s turns refl
step-keeps file calls (Some c) s turns = change-keeps file calls c s turns

loop-keeps : (most : ℕ) (test : BodyState → ℕ → Answer (Left ℤ)) (body step : Runs) →
    ((s : BodyState) (turns : ℕ) → Falls turns (test s turns)) → ((s : BodyState) (turns : ℕ) → Keeps s turns (body s turns)) →
    ((s : BodyState) (turns : ℕ) → Keeps s turns (step s turns)) → (s : BodyState) (turns : ℕ) → Keeps s turns (loop most test body step s turns)
loop-keeps most test body step ft kb ks s zero = tt
loop-keeps zero test body step ft kb ks s (suc turns) = tt
loop-keeps (suc most) test body step ft kb ks s (suc turns) =
    let again : Runs = λ s turns. flows (loop most test body step) (step s turns) in
    keeps-less s (suc turns) turns (with_value (test s turns) s (λ n. if is_zero n.value then goes_on s n.turns else loops again (body s n.turns)))
    (omega arith)
    (with_value-left s turns (test s turns) (λ n. if is_zero n.value then goes_on s n.turns else loops again (body s n.turns)) (ft s turns)
    (λ n. keeps-if (is_zero n.value) s n.turns (goes_on s n.turns) (loops again (body s n.turns)) (keeps-on s s n.turns refl)
    (loops-keeps s n.turns again (body s n.turns) (kb s n.turns)
    (λ t left. flows-keeps t left (loop most test body step) (step t left) (ks t left) (loop-keeps most test body step ft kb ks)))))

numbered-falls : (a : Answer ℕ) (first turns : ℕ) → Falls turns (and_then a (λ k. Ok (left (first + k) turns)))
numbered-falls (Ok k) first turns = omega arith
numbered-falls (Err ending) first turns = tt

number-falls : (file : File) → CallsFall file → (t : tree.TargetTree) (s : BodyState) (turns : ℕ) → Falls turns (stream_number file t s turns)
number-falls file calls (tree.Variable n) s turns = omega arith
number-falls file calls (tree.Element n m e) s turns =
    falls-then turns (value file e s turns)
    (λ i. and_then (checked (stream_count (find s.bound n.id)) m.line i.value) (λ k. Ok (left (first_stream (find s.bound n.id) + k) i.turns)))
    (value-falls file calls e s turns)
    (λ i. numbered-falls (checked (stream_count (find s.bound n.id)) m.line i.value) (first_stream (find s.bound n.id)) i.turns)

burst-falls : (file : File) → CallsFall file → (d : Direction) (horizon : ℕ) (i : Option tree.IndexTree) (s : BodyState) (turns : ℕ) →
    Falls turns (burst file d horizon i s turns)
burst-falls file calls d horizon None s turns = omega arith
burst-falls file calls d horizon (Some i) s turns =
    falls-then turns (value file i.value s turns) (λ n. with_turns n.turns (burst_of d i.mark.line horizon n.value))
    (value-falls file calls i.value s turns) (λ n. falls-with n.turns (burst_of d i.mark.line horizon n.value))

joined-falls : (file : File) → CallsFall file → (d : Direction) (stream : ℕ) (j : Option tree.JoinTree) (s : BodyState) (turns : ℕ) →
    Falls turns (joined file d stream j s turns)
joined-falls file calls d stream None s turns = omega arith
joined-falls file calls d stream (Some j) s turns =
    let horizon = horizon_of (find s.bound j.name.id) in
    falls-then turns (burst file d horizon j.burst s turns) (λ b. Ok (left (claim_of d stream horizon b.value) b.turns))
    (burst-falls file calls d horizon j.burst s turns) (λ b. omega arith)

item-falls : (file : File) → CallsFall file → (d : Direction) (i : tree.ClauseItemTree) (s : BodyState) (turns : ℕ) → Falls turns (item_claim file d i s turns)
item-falls file calls d i s turns =
    falls-then turns (stream_number file i.stream s turns) (λ n. joined file d n.value i.window s n.turns)
    (number-falls file calls i.stream s turns) (λ n. joined-falls file calls d n.value i.window s n.turns)

items-falls : (file : File) → CallsFall file → (ps : List clause.ClauseMember) (s : BodyState) (turns : ℕ) → Falls turns (items_claims file ps s turns)
items-falls file calls [] s turns = omega arith
items-falls file calls (clause.Private n ∷ ps) s turns = items-falls file calls ps s turns
items-falls file calls (clause.Item d i ∷ ps) s turns =
    falls-then turns (item_claim file d i s turns)
    (λ c. and_then (items_claims file ps s c.turns) (λ cs. Ok (left (c.value ∷ cs.value) cs.turns)))
    (item-falls file calls d i s turns)
    (λ c. falls-then c.turns (items_claims file ps s c.turns) (λ cs. Ok (left (c.value ∷ cs.value) cs.turns))
    (items-falls file calls ps s c.turns) (λ cs. omega arith))

limited-keeps : (l : Option ControlLimit) (s next : BodyState) (turns : ℕ) → item_lengths next ≡ item_lengths s → Keeps s turns (unless_limited l s turns next)
limited-keeps None s next turns e = keeps-on s next turns e
limited-keeps (Some n) s next turns e = tt

task-keeps : (file : File) → CallsFall file → (sites : List Site) (number : Option ℕ) (ps : List clause.ClauseMember) (s : BodyState) (turns : ℕ) →
    Keeps s turns (run_task file sites number ps s turns)
task-keeps file calls sites None ps s turns = keeps-on s s turns refl
task-keeps file calls sites (Some number) ps s turns =
    with_value-left s turns (items_claims file ps s turns)
    (λ c. unless_limited (limit s.activations c.value) s c.turns (with_activation file number (captured_by sites number) c.value s))
    (items-falls file calls ps s turns)
    (λ c. limited-keeps (limit s.activations c.value) s (with_activation file number (captured_by sites number) c.value s) c.turns refl)

turn-keeps : (stream amount : ℕ) (s : BodyState) (turns : ℕ) → Keeps s turns (tick_turn stream amount s turns)
turn-keeps stream amount s zero = tt
turn-keeps stream amount s (suc turns) = (omega arith, refl)

tick-keeps : (file : File) → CallsFall file → (t : tree.TargetTree) (arrow : Mark) (e : tree.ExprTree) (s : BodyState) (turns : ℕ) →
    Keeps s turns (run_tick file t arrow e s turns)
tick-keeps file calls t arrow e s turns =
    with_value-left s turns (stream_number file t s turns)
    (λ n. with_value (value file e s n.turns) s
    (λ v. with_value (cursor_move arrow.line v.value) s (λ amount. tick_turn n.value amount s v.turns)))
    (number-falls file calls t s turns)
    (λ n. valued-keeps file calls e s n.turns (λ v. with_value (cursor_move arrow.line v.value) s (λ amount. tick_turn n.value amount s v.turns))
    (λ v. with_value-plain s v.turns (cursor_move arrow.line v.value) (λ amount. tick_turn n.value amount s v.turns)
    (λ amount. turn-keeps n.value amount s v.turns)))

mutual
  pub run-keeps : (u : Around) → CallsFall u.file → (a : tree.StmtTree) (s : BodyState) (turns : ℕ) → Keeps s turns (run u a s turns)
  run-keeps u calls tree.StmtTree.Empty s turns = keeps-on s s turns refl
  run-keeps u calls (tree.Block ss) s turns = left-keeps s s turns (run_all u ss s turns) (all-keeps u calls ss s turns)
  run-keeps u calls (tree.StmtTree.Declare ty ds) s turns = declarators-keeps u calls (is_unsigned ty) ds s turns
  run-keeps u calls (tree.StmtTree.Change c) s turns = change-keeps u.file calls c s turns
  run-keeps u calls (tree.StmtTree.Call f args) s turns =
      with_value-left s turns (and_then (values u.file args s turns) (call_value u.file.calls (variable u.file s f.id))) (λ n. goes_on s n.turns)
      (falls-then turns (values u.file args s turns) (call_value u.file.calls (variable u.file s f.id))
      (values-falls u.file calls args s turns) (call-falls u.file calls (variable u.file s f.id)))
      (λ n. keeps-on s s n.turns refl)
  run-keeps u calls (tree.If c a) s turns =
      valued-keeps u.file calls c s turns (λ n. if is_zero n.value then goes_on s n.turns else run u a s n.turns)
      (λ n. keeps-if (is_zero n.value) s n.turns (goes_on s n.turns) (run u a s n.turns) (keeps-on s s n.turns refl) (run-keeps u calls a s n.turns))
  run-keeps u calls (tree.IfElse c a b) s turns =
      valued-keeps u.file calls c s turns (λ n. if is_zero n.value then run u b s n.turns else run u a s n.turns)
      (λ n. keeps-if (is_zero n.value) s n.turns (run u b s n.turns) (run u a s n.turns) (run-keeps u calls b s n.turns) (run-keeps u calls a s n.turns))
  run-keeps u calls (tree.While c a) s turns =
      loop-keeps turns (value u.file c) (run u a) goes_on (value-falls u.file calls c) (run-keeps u calls a) (λ s turns. keeps-on s s turns refl) s turns
  run-keeps u calls (tree.For start test step a) s turns =
      left-keeps s s turns
      (flows (λ inner left. loop left (run_test u.file test) (run u a) (run_step u.file step) inner left) (run_start u start s turns))
      (flows-keeps s turns (λ inner left. loop left (run_test u.file test) (run u a) (run_step u.file step) inner left) (run_start u start s turns)
      (start-keeps u calls start s turns)
      (λ inner left. loop-keeps left (run_test u.file test) (run u a) (run_step u.file step) (test-falls u.file calls test)
      (run-keeps u calls a) (step-keeps u.file calls step) inner left))
  run-keeps u calls (tree.Break m) s turns = (omega arith, refl)
  run-keeps u calls (tree.Continue m) s turns = (omega arith, refl)
  run-keeps u calls (tree.Return m e) s turns =
      valued-keeps u.file calls e s turns (λ n. Went (Returns n.value) s n.turns) (λ n. (omega arith, refl))
  run-keeps u calls (tree.Task m cs a) s turns = task-keeps u.file calls u.sites (task_number u.sites m) (members cs) s turns
  run-keeps u calls (tree.Tick m t arrow e) s turns = tick-keeps u.file calls t arrow e s turns
  run-keeps u calls (tree.Taskwait m) s turns = keeps-on s s turns refl

  pub all-keeps : (u : Around) → CallsFall u.file → (ss : tree.Stmts) (s : BodyState) (turns : ℕ) → Keeps s turns (run_all u ss s turns)
  all-keeps u calls tree.no_stmts s turns = keeps-on s s turns refl
  all-keeps u calls (tree.stmt a rest) s turns =
      flows-keeps s turns (run_all u rest) (run u a s turns) (run-keeps u calls a s turns) (all-keeps u calls rest)
