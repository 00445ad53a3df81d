-- What a statement does. C11, 6.8; the declarations and pragmas of the control program by the rules of streams.
use Rattle.std.specs.Prelude.{ℕ, zero, suc, ◌+◌, Bool, false, if◌then◌else◌, leb, ◌&&◌, List, [], ◌∷◌}
use Rattle.flow_core_laws.specs.Limits.{horizon_limit}
use Rattle.std.specs.Prelude.{length, get_or, replicate, Option, Some, None, ℤ, pos, unwrap_or, Ok}
use Rattle.std.specs.Option.{option_map_or}
use Rattle.c_int.specs.Operators.{is_zero}
use Rattle.c_int.specs.declared.trap.Trap.TheVariants.{WindowSize}
use Rattle.cddf_meaning.specs.Answers.{Answer, passing, and_then, Left, left, with_turns}
use Rattle.cddf_meaning.specs.File.{File, variable, flags, type_in}
use Rattle.cddf_meaning.specs.Flow.{Went, Ended, Runs, with_value, goes_on, flows, loops, left_from}
use Rattle.cddf_meaning.specs.Operators.{binary_answer, step_operator}
use Rattle.cddf_meaning.specs.BodyState.{BodyState, declared, stored, stored_at}
use Rattle.cddf_meaning.specs.Streams.{run_task, run_tick, task_number}
use Rattle.cddf_meaning.specs.declared.site.Site.{Site}
use Rattle.cddf_meaning.specs.declared.aim.Aim.{Aim}
use Rattle.cddf_meaning.specs.declared.aim.Aim.TheVariants.{Name, Element}
use Rattle.cddf_meaning.specs.Variables.{find}
use Rattle.cddf_meaning.specs.Value.{value, values, call_value, scalar_value, elements, checked}
use Rattle.cddf_meaning.specs.declared.ending.Ending.TheVariants.{OverBudget}
use Rattle.cddf_meaning.specs.declared.flow.Flow.TheVariants.{Breaks, Continues, Returns}
use Rattle.cddf_meaning.specs.declared.variable.Variable.TheVariants.{Scalar, Array, Window, Stream}
use Rattle.os_ast.specs.ClauseMembers.{members, target_name}
use Rattle.os_ast.specs.Unsigned.{is_unsigned}
use Rattle.os_ast.specs.Notes.Declarators.{within_limit}
use Rattle.os_ast.specs.Trees as tree
use Rattle.os_ast.specs.declared.stmt.Assign.TheVariants as assign_of
use Rattle.os_ast.specs.declared.stmt.Assign.{Assign}

-- What is round a body: the items of the file before it; whether it is the control program, whose array declarations
-- are windows; and the tasks of the program.
pub record Around : Type 0 where
  pub file : File
  pub is_control : Bool
  pub sites : List Site

-- A loop takes a turn, evaluates its condition, and runs its body and its step, over and over. C11, 6.8.5. Each time it
-- takes a turn, so that `most` never runs out before the turns, where it is as large as they are at first.
abbrev pub loop : ℕ → (BodyState → ℕ → Answer (Left ℤ)) → Runs → Runs → Runs
loop most test body step s zero = Ended OverBudget s.activations
loop zero test body step s (suc turns) = Ended OverBudget s.activations
loop (suc most) test body step s (suc turns) = with_value (test s turns) s
    (λ n. if is_zero n.value then goes_on s n.turns else loops (λ s turns. flows (loop most test body step) (step s turns)) (body s n.turns))

-- What is stored: the right side, or what the operator gives of the old value and the right side, by the types of the target and of
-- the right side. A conversion to the type of the target keeps the bits.
abbrev pub assigned : Assign → ℕ → (target right : Bool) → ℤ → ℤ → Answer ℤ
assigned assign_of.Plain line target right old new = Ok new
assigned (assign_of.With op) line target right old new = binary_answer op line target right old new

-- The target of a change: its index is evaluated, and checked with the line of its `[`.
abbrev pub aim_at : File → tree.TargetTree → BodyState → ℕ → Answer (Left Aim)
aim_at file (tree.Variable n) s turns = Ok (left (Name n.id) turns)
aim_at file (tree.Element n m e) s turns = and_then (value file e s turns)
    (λ i. and_then (checked (length (elements s (find s.bound n.id))) m.line i.value) (λ k. Ok (left (Element n.id k) i.turns)))

abbrev pub old_value : File → BodyState → Aim → ℤ
old_value file s (Name id) = scalar_value s (variable file s id)
old_value file s (Element id k) = get_or (elements s (find s.bound id)) k (pos 0)

abbrev pub after_store : BodyState → Aim → ℤ → BodyState
after_store s (Name id) v = stored s id v
after_store s (Element id k) v = stored_at s id k v

-- A change: the target; then what is stored, which may be made of the old value; then it is stored. Expressions change
-- no name, so that it makes no difference when the old value is read.
abbrev pub changed : File → tree.TargetTree → (ℤ → BodyState → ℕ → Answer (Left ℤ)) → Runs
changed file t right s turns = with_value (aim_at file t s turns) s
    (λ a. with_value (right (old_value file s a.value) s a.turns) s (λ v. goes_on (after_store s a.value v.value) v.turns))

-- the type of a target
abbrev pub target_type : File → BodyState → tree.TargetTree → Bool
target_type file s t = flags file s (target_name t)

-- `x op= e` operates as `x op e`; `++` and `--` add or take 1. The line of a trap is the operator's. C11, 6.5.16,
-- 6.5.2.4 and 6.5.3.1.
abbrev pub run_change : File → tree.ChangeTree → Runs
run_change file (tree.Set t a m e) = changed file t (λ old s turns. and_then (value file e s turns)
    (λ n. with_turns n.turns (assigned a m.line (target_type file s t) (type_in file s e) old n.value)))
run_change file (tree.After t p m) =
    changed file t (λ old s turns. with_turns turns (binary_answer (step_operator p) m.line (target_type file s t) false old (pos 1)))
run_change file (tree.Before t p m) =
    changed file t (λ old s turns. with_turns turns (binary_answer (step_operator p) m.line (target_type file s t) false old (pos 1)))

-- A scalar is 0 from its declarator on, also while its own first value is evaluated. What is declared is of the type of its
-- declaration.
abbrev pub run_scalar : File → Bool → ℕ → Option tree.ExprTree → Runs
run_scalar file unsigned id None s turns = goes_on (declared id unsigned (Scalar (pos 0)) s) turns
run_scalar file unsigned id (Some e) s turns = let inner = declared id unsigned (Scalar (pos 0)) s in
    with_value (value file e inner turns) inner (λ n. goes_on (stored inner id n.value) n.turns)

-- The size of a local array or of a stream array is a number or a constant from 1 to 65,536.
abbrev pub array_size : ℤ → ℕ
array_size v = unwrap_or (within_limit v) 0

-- A local array has as many zeros as its size.
abbrev pub run_array : File → Bool → ℕ → tree.ExprTree → Runs
run_array file unsigned id size s turns =
    with_value (value file size s turns) s (λ n. goes_on (declared id unsigned (Array (replicate (array_size n.value) (pos 0))) s) n.turns)

-- The size of a window is 1 to 65,536; else it is the trap `WindowSize`, with the line of its `[`.
abbrev pub window_size : ℕ → ℤ → Answer ℕ
window_size line v = passing (λ n. leb 1 n && leb n horizon_limit) WindowSize line v

abbrev pub run_window : File → Bool → ℕ → tree.IndexTree → Runs
run_window file unsigned id i s turns = with_value (value file i.value s turns) s
    (λ n. with_value (window_size i.mark.line n.value) s (λ horizon. goes_on (declared id unsigned (Window horizon) s) n.turns))

-- Streams are numbered in the order of the text, behind `osin` and `osout`.
abbrev pub with_streams : ℕ → Bool → ℕ → BodyState → BodyState
with_streams id unsigned count s = record (declared id unsigned (Stream s.streams count) s) { streams = s.streams + count }

abbrev pub run_streams : File → Bool → ℕ → Option tree.IndexTree → Runs
run_streams file unsigned id None s turns = goes_on (with_streams id unsigned 1 s) turns
run_streams file unsigned id (Some i) s turns =
    with_value (value file i.value s turns) s (λ n. goes_on (with_streams id unsigned (array_size n.value) s) n.turns)

-- an array of the control program is a window, every other is a local array
abbrev pub run_sized : Around → Bool → ℕ → tree.IndexTree → Runs
run_sized u unsigned id i = if u.is_control then run_window u.file unsigned id i else run_array u.file unsigned id i.value

abbrev pub run_unsized_or : Around → Bool → tree.DeclaratorTree → Option tree.IndexTree → Runs
run_unsized_or u unsigned d size = option_map_or (run_sized u unsigned d.name.id) size (run_scalar u.file unsigned d.name.id d.first)

-- A declaration sets its variable each time that it is executed. C11, 6.7.9. Streams are declared once, directly in the
-- outermost block of `main`.
abbrev pub run_declarator : Around → Bool → tree.DeclaratorTree → Runs
run_declarator u unsigned d = if d.stream then run_streams u.file unsigned d.name.id d.size else run_unsized_or u unsigned d d.size

-- the declarators of a declaration, one after another, all of its type
abbrev pub run_declarators : Around → Bool → List tree.DeclaratorTree → Runs
run_declarators u unsigned [] s turns = goes_on s turns
run_declarators u unsigned (d ∷ ds) s turns = flows (run_declarators u unsigned ds) (run_declarator u unsigned d s turns)

-- what stands before the first `;` of a `for`
abbrev pub run_start : Around → tree.StartTree → Runs
run_start u tree.StartTree.Empty s turns = goes_on s turns
run_start u (tree.StartTree.Declare ty ds) s turns = run_declarators u (is_unsigned ty) ds s turns
run_start u (tree.StartTree.Change c) s turns = run_change u.file c s turns

-- Without a test a loop goes on.
abbrev pub run_test : File → Option tree.ExprTree → BodyState → ℕ → Answer (Left ℤ)
run_test file None s turns = Ok (left (pos 1) turns)
run_test file (Some e) s turns = value file e s turns

-- what stands behind the second `;` of a `for`
abbrev pub run_step : File → Option tree.ChangeTree → Runs
run_step file None s turns = goes_on s turns
run_step file (Some c) s turns = run_change file c s turns

-- A statement. `if`, blocks, loops, jumps: C11, 6.8.2 to 6.8.6. A tick or a task stands in the control program alone.
abbrev mutual
  pub run : Around → tree.StmtTree → Runs
  run u (tree.Block ss) s turns = left_from s (run_all u ss s turns)
  run u (tree.StmtTree.Declare ty ds) s turns = run_declarators u (is_unsigned ty) ds s turns
  run u (tree.StmtTree.Change c) s turns = run_change u.file c s turns
  run u (tree.StmtTree.Call f args) s turns =
      with_value (and_then (values u.file args s turns) (call_value u.file.calls (variable u.file s f.id))) s (λ n. goes_on s n.turns)
  run u (tree.If c a) s turns = with_value (value u.file c s turns) s (λ n. if is_zero n.value then goes_on s n.turns else run u a s n.turns)
  run u (tree.IfElse c a b) s turns = with_value (value u.file c s turns) s (λ n. if is_zero n.value then run u b s n.turns else run u a s n.turns)
  run u (tree.While c a) s turns = loop turns (value u.file c) (run u a) goes_on s turns
  run u (tree.For start test step a) s turns = left_from s
      (flows (λ inner left. loop left (run_test u.file test) (run u a) (run_step u.file step) inner left) (run_start u start s turns))
  run u (tree.Break m) s turns = Went Breaks s turns
  run u (tree.Continue m) s turns = Went Continues s turns
  run u (tree.Return m e) s turns = with_value (value u.file e s turns) s (λ n. Went (Returns n.value) s n.turns)
  run u (tree.Task m cs a) s turns = run_task u.file u.sites (task_number u.sites m) (members cs) s turns
  run u (tree.Tick m t arrow e) s turns = run_tick u.file t arrow e s turns
  -- `;` and a taskwait do nothing: the control program reads no element, so there is nothing to wait for.
  run u _ s turns = goes_on s turns

  -- the statements and declarations of a block, one after another, until one leaves it
  pub run_all : Around → tree.Stmts → Runs
  run_all u tree.no_stmts s turns = goes_on s turns
  run_all u (tree.stmt a rest) s turns = flows (run_all u rest) (run u a s turns)
