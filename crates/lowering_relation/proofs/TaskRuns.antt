-- A task's code ends as its body does.
use Rattle.std.proofs.Common.{◌≡◌, ℕ, suc, ◌+◌, ◌-◌, ◌≤◌, Bool, true, false, if◌then◌else◌, List, [], ◌∷◌, ◌++◌, map, length, replicate, Some, ℤ, pos, refl, sym, ap, ◌∙◌, subst, arith, length-append}
use Rattle.std.proofs.lemmas.List.{length-replicate, length-map, get_or_append_left}
use Rattle.std.specs.List.{list_all, AllZip}
use Rattle.c_int.specs.Traps.{trap_code}
use Rattle.c_int.specs.declared.trap.Trap.TheVariants as trap_of
use Rattle.c_int.specs.declared.control_limit.ControlLimit.{ControlLimit}
use Rattle.cddf_meaning.specs.Body as meaning
use Rattle.cddf_meaning.specs.Body.{bound_round, item_lists, outcome, task_outcome, chosen_outcome, outcome_in, body}
use Rattle.cddf_meaning.specs.File.{File}
use Rattle.cddf_meaning.specs.Flow.{Ran, Ended}
use Rattle.cddf_meaning.specs.Functions.{in_function}
use Rattle.cddf_meaning.specs.Moves.{CallsFall, read_horizons}
use Rattle.cddf_meaning.specs.Run.{run}
use Rattle.cddf_meaning.specs.BodyState.{BodyState, state_of}
use Rattle.cddf_meaning.specs.Tasks.{Task as MeaningTask}
use Rattle.cddf_meaning.specs.declared.ending.Ending.{Ending}
use Rattle.cddf_meaning.specs.declared.ending.Ending.TheVariants as ending
use Rattle.cddf_meaning.specs.Scoped.{scoped_task_at}
use Rattle.cddf_meaning.specs.declared.flow.Flow.TheVariants.{GoesOn, Breaks, Continues, Returns}
use Rattle.flow_core_laws.specs.Outcome.{trapped}
use Rattle.flow_core_laws.specs.declared.activation.Activation.{Activation}
use Rattle.flow_core_laws.specs.declared.claim.Claim.{Claim}
use Rattle.flow_core_laws.specs.declared.outcome.Outcome.{Outcome}
use Rattle.os_ast.specs.Captured.{captured}
use Rattle.os_ast.specs.Names.{Scope}
use Rattle.os_ast.specs.Notes.Statements.{after_stmt}
use Rattle.os_ast.specs.ClauseMembers.{ClauseMember, Item, Private, members, count_items}
use Rattle.os_ast.specs.Stacked.{main_extent, begins, ends}
use Rattle.os_ast.specs.Stacked as text
use Rattle.os_ast.specs.declared.names.Entry.{Entry}
use Rattle.os_ast.specs.declared.names.Owner.TheVariants as owner
use Rattle.os_ast.specs.declared.names.Resolved.{Resolved}
use Rattle.os_code.specs.declared.instr.Instr.TheVariants as instr
use Rattle.os_code.specs.declared.parts.Parts.{Parts}
use Rattle.os_code.specs.declared.site.SiteItem.{SiteItem}
use Rattle.os_code.specs.Machine as machine
use Rattle.os_code.specs.Machine.{Halt, Trapped, OverBudget, Limited, frame_slots, act, step, RunsToHalt, Halts}
use Rattle.os_code.specs.Parts.{instr_at}
use Rattle.os_code.specs.Tasks.{ClaimFits, Fits, TaskOutcome, IsDone, SendsNoByte, IsTrapped, IsOver, TaskEnds, task_start, task_windows}
use Rattle.os_code.specs.Tasks as tasks
use Rattle.lowering_relation.specs.Alignment.{Stacked, slot_at, Aligned}
use Rattle.lowering_relation.specs.Names.{told_at}
use Rattle.lowering_relation.specs.Programs.{size_by, HasTask}
use Rattle.lowering_relation.specs.Tasks.{site_items}
use Rattle.lowering_relation.proofs.Capturing.{captured_scalars}
use Rattle.lowering_relation.proofs.Context.{InTask, resources, Windows, Kept, Context, means}
use Rattle.lowering_relation.proofs.Flows.{Does, went, ended, settled, exactly}
use Rattle.lowering_relation.proofs.Functions.{FileFits}
use Rattle.lowering_relation.proofs.Owning.{nothing, owns_nothing}
use Rattle.lowering_relation.proofs.Sizes.{stmt_sizes}
use Rattle.lowering_relation.proofs.Steps.{Store, at, Leads, stays, steps, Stops, acts}
use Rattle.lowering_relation.proofs.Stmts.{stmt_does}
use Rattle.lowering_relation.proofs.TaskContexts.{items_onto, task_context, task_agrees, task_in, first_slots, inner, caught_all}
use Rattle.lowering_relation.proofs.TaskStarts.{points, captured_stacked, captured_aligned, items_stacked, items_aligned, AllSome, windows_start, claims_start, same_written, same_bytes}
use Rattle.lowering_relation.proofs.TaskTexts.{TaskAt, strip}
use Rattle.window_check_laws.specs.CapturedByUse.{Ascends}
use Rattle.window_check_laws.specs.Order.{InOrder}
use Rattle.window_check_laws.specs.Sums.{extent_in, stmt_slots}
use Rattle.window_check_laws.proofs.Collected.{captured-ascends}
use Rattle.window_check_laws.proofs.Summed.{summed-stmt}

-- claims that fit the items of a site
pub claims_fit : (streams : ℕ) (items : List SiteItem) (claims : List Claim) → AllZip (ClaimFits streams) items claims → (length items ≡ length claims) × AllSome claims
claims_fit streams [] [] h = (refl, tt)
claims_fit streams [] (c ∷ claims) h = elim h [ ]
claims_fit streams (i ∷ items) [] h = elim h [ ]
claims_fit streams (i ∷ items) (c ∷ claims) h = let r = claims_fit streams items claims h.1 in (ap suc r.0, (h.0.some, r.1))

items_counted : (tells : ℕ → Resolved) (qs : List ClauseMember) → length (site_items tells qs) ≡ count_items qs
items_counted tells [] = refl
items_counted tells (Private n ∷ qs) = items_counted tells qs
items_counted tells (Item d i ∷ qs) = ap suc (items_counted tells qs)

-- the outcome of a run from a state
pub record EndsIn (code : Parts) (line : ℕ) (s : machine.MachineState) (out : Outcome) : Type 0 where
  pub halt : Halt
  pub last : machine.MachineState
  pub count : ℕ
  pub runs : RunsToHalt code s halt last count
  pub ends : TaskOutcome line halt last out

pub to_end : (code : Parts) (s last : machine.MachineState) → Leads code s last → instr_at code last.place ≡ Some instr.End → (count : ℕ) × RunsToHalt code s machine.Ended last count
unfolding act
to_end code s last stays is = (1, Halts (acts code last instr.End is))
to_end code s last (steps {t = t} a l) is = let r = to_end code t last l is in (r.0 + 1, machine.GoesOn a r.1)

at_end : (code : Parts) (line : ℕ) (claims : List Claim) (m : Store) (items : List (List ℤ)) (s : machine.MachineState) (q turns : ℕ) (stack : List ℤ) → Leads code s (at [] q stack m turns) → instr_at code q ≡ Some instr.End →
    map (λ (w : machine.TaskWindow). w.claim) m.windows ≡ claims → Windows m.windows items →
    EndsIn code line s (if meaning.gives_bytes claims items then meaning.done (meaning.outputs_of claims items) else trapped (trap_code trap_of.NoByte) line)
at_end code line claims m items s q turns stack l is same windows = by_case (meaning.gives_bytes claims items) refl
  where
    last : machine.MachineState
    last = at [] q stack m turns

    run_there : (count : ℕ) × RunsToHalt code s machine.Ended (at [] q stack m turns) count
    run_there = to_end code s (at [] q stack m turns) l is

    bytes : meaning.gives_bytes claims items ≡ list_all tasks.sends_bytes m.windows
    bytes = subst (λ cs. meaning.gives_bytes cs items ≡ list_all tasks.sends_bytes m.windows) same (same_bytes m.windows items windows)

    out : meaning.outputs_of claims items ≡ tasks.written_elements m.windows
    out = subst (λ cs. meaning.outputs_of cs items ≡ tasks.written_elements m.windows) same (same_written m.windows items windows)

    by_case : (t : Bool) → meaning.gives_bytes claims items ≡ t → EndsIn code line s (if t then meaning.done (meaning.outputs_of claims items) else trapped (trap_code trap_of.NoByte) line)
    by_case true e = record {
      halt = machine.Ended;
      last = at [] q stack m turns;
      count = run_there.0;
      runs = run_there.1;
      ends = subst (λ vs. TaskOutcome line machine.Ended (at [] q stack m turns) (meaning.done vs)) (sym out) (IsDone {last = at [] q stack m turns} (sym bytes ∙ e));
    }
    by_case false e = record { halt = machine.Ended; last = at [] q stack m turns; count = run_there.0; runs = run_there.1; ends = SendsNoByte {last = at [] q stack m turns} (sym bytes ∙ e) }

pub no_limit : (line : ℕ) (n : ControlLimit) (h : Halt) (last : machine.MachineState) (out : Outcome) → TaskOutcome line h last out → h ≡ Limited n → ⊥
no_limit line n h last out (IsDone e) is = absurd (cc)
no_limit line n h last out (SendsNoByte e) is = absurd (cc)
no_limit line n h last out IsTrapped is = absurd (cc)
no_limit line n h last out IsOver is = absurd (cc)

-- where the body ended
at_halt : (code : Parts) (line : ℕ) (claims : List Claim) (e : Ending) (activations : List Activation) (s : machine.MachineState) (made : List Activation) → Stops code s e made → ((n : ControlLimit) → e ≡ ending.Limited n → ⊥) →
    EndsIn code line s (outcome line claims (Ended e activations))
at_halt code line claims (ending.Trapped x at_line) activations s made h apart = record { halt = Trapped x at_line; last = h.last; count = h.steps; runs = h.runs; ends = IsTrapped }
at_halt code line claims ending.OverBudget activations s made h apart = record { halt = OverBudget; last = h.last; count = h.steps; runs = h.runs; ends = IsOver }
at_halt code line claims (ending.Limited n) activations s made h apart = absurd (apart n refl)

-- the end of a task, from what its body does
task_end : (c : Context) (total end : ℕ) (es after : List Entry) (claims : List Claim) (line : ℕ) (s : machine.MachineState) (r : Ran) → c.side ≡ InTask claims → instr_at c.code end ≡ Some instr.End →
    ((e : Ending) (made : List Activation) (n : ControlLimit) → Stops c.code s e made → e ≡ ending.Limited n → ⊥) →
    Does c.code s (settled c [] instr.End total end end end [] (exactly es) after) r → EndsIn c.code line s (outcome line claims r)
task_end c total end es after claims line s _ side is limits (went GoesOn st turns (m, len, kept, al) l) =
    let k : Kept (InTask claims) st m = subst (λ x. Kept x st m) side kept in at_end c.code line claims m st.items s end turns [] l is k.0 k.1
task_end c total end es after claims line s _ side is limits (went Breaks st turns (m, len, kept, al) l) =
    let k : Kept (InTask claims) st m = subst (λ x. Kept x st m) side kept in at_end c.code line claims m st.items s end turns [] l is k.0 k.1
task_end c total end es after claims line s _ side is limits (went Continues st turns (m, len, kept, al) l) =
    let k : Kept (InTask claims) st m = subst (λ x. Kept x st m) side kept in at_end c.code line claims m st.items s end turns [] l is k.0 k.1
task_end c total end es after claims line s _ side is limits (went (Returns v) st turns (m, len, kept, (q, at_q)) l) =
    let k : Kept (InTask claims) st m = subst (λ x. Kept x st m) side kept in at_end c.code line claims m st.items s q turns (v ∷ []) l at_q k.0 k.1
task_end c total end es after claims line s _ side is limits (ended {e = e} {activations = activations} made h k) = at_halt c.code line claims e activations s made h (λ n x. limits e made n h x)

-- A task's code ends as its body does.
module _ (code : Parts) (file : File) (falls : CallsFall file) (rs : List Resolved) (ordered : InOrder rs) (file_es : List Entry) (fits : FileFits code file file_es) (t : MeaningTask) (slots : List ℕ) (there : TaskAt rs file_es t slots)
    (number : ℕ) (site_captured : List (List ℕ)) (has : HasTask code (told_at rs) site_captured number (strip (scoped_task_at there.scope there.mark there.clauses there.body))) (same_slots : has.site.captured ≡ slots)
    (a : Activation) (inputs : List ℤ) (budget : ℕ) (arguments : length a.captured ≡ length has.site.captured) (claims_ok : (length has.site.items ≡ length a.claims) × AllSome a.claims) (enough : read_horizons a.claims ≤ length inputs) where
  abbrev c : Context
  c = task_context code file falls rs ordered file_es fits t slots there a.claims

  abbrev in_body_of : Scope
  in_body_of = inner code file falls rs ordered file_es fits t slots there a.claims

  abbrev these : MeaningTask
  these = scoped_task_at there.scope there.mark there.clauses there.body

  abbrev m0 : Store
  m0 = record { slots = frame_slots has.unit a.captured; windows = task_windows a.claims inputs; created = []; skips = [] }

  abbrev begun : BodyState
  begun = state_of (bound_round these a.captured) (item_lists a.claims inputs)

  count_captured : length slots ≡ length (captured there.scope.entries (members there.clauses) there.body)
  count_captured = ap length there.captures ∙ length-map (captured there.scope.entries (members there.clauses) there.body) _

  ascends : Ascends 0 slots
  ascends =
      subst (Ascends 0) (sym there.captures)
      (captured-ascends there.scope.entries (members there.clauses) there.body there.scope.slots
      (subst (λ o. text.Stacked (extent_in o) there.scope.slots there.scope.entries) there.in_main.owner there.in_main.stacked))

  frame_long : length (frame_slots has.unit a.captured) ≡ has.unit.slots
  frame_long =
      let zeros : length (replicate (has.unit.slots - has.unit.args) (pos 0)) ≡ has.unit.slots - has.unit.args = length-replicate (has.unit.slots - has.unit.args) (pos 0) in
      let sum : length (frame_slots has.unit a.captured) ≡ length a.captured + length (replicate (has.unit.slots - has.unit.args) (pos 0)) = length-append a.captured (replicate (has.unit.slots - has.unit.args) (pos 0)) in
      omega (arith, zeros, sum, has.args, has.slots, arguments)

  aligned : Aligned (resources (InTask a.claims)) (means c) m0.slots begun.bound c.bound
  aligned =
      let n = ap length same_slots in
      let k = count_captured in
      subst (λ es. Aligned (resources (InTask a.claims)) (means c) m0.slots begun.bound es) (items_onto there.scope _ 0 (members there.clauses) [] (caught_all code file falls rs ordered file_es fits t slots there a.claims))
      (items_aligned slots a.claims m0.slots there.scope _ 0 (members there.clauses) _ (caught_all code file falls rs ordered file_es fits t slots there a.claims)
      (let z : length (site_items (told_at rs) (members there.clauses)) ≡ count_items (members there.clauses) = items_counted (told_at rs) (members there.clauses) in
      let y : length has.site.items ≡ length (site_items (told_at rs) (members there.clauses)) = ap length has.items in
      omega (arith, z, y, claims_ok.0))
      (captured_aligned slots ascends there.scope.entries (resources (InTask a.claims)) m0.slots (captured there.scope.entries (members there.clauses) there.body) a.captured 0 [] [] (captured_scalars there.scope.entries _) (points slots _ there.captures)
      (omega (arith, arguments, n, k)) (λ i lt. let z : 0 + i ≡ i = omega arith in ap (λ j. slot_at m0.slots j) z ∙ get_or_append_left a.captured (replicate (has.unit.slots - has.unit.args) (pos 0)) (pos 0) i lt) tt))

  stacked : Stacked (means c) in_body_of.slots ([] ++ c.bound)
  stacked =
      let k = count_captured in
      let f = first_slots code file falls rs ordered file_es fits t slots there a.claims in
      subst (λ n. Stacked (means c) n c.bound) (let e : 0 + length (captured there.scope.entries (members there.clauses) there.body) ≡ in_body_of.slots = omega (arith, k, f) in e)
      (subst (λ es. Stacked (means c) (0 + length (captured there.scope.entries (members there.clauses) there.body)) es) (items_onto there.scope _ 0 (members there.clauses) [] (caught_all code file falls rs ordered file_es fits t slots there a.claims))
      (items_stacked slots there.scope _ 0 _ (members there.clauses) (caught_all code file falls rs ordered file_es fits t slots there a.claims)
      (captured_stacked slots ascends there.scope.entries (captured there.scope.entries (members there.clauses) there.body) 0 [] (captured_scalars there.scope.entries _) (points slots _ there.captures) tt)))

  room : (after_stmt in_body_of there.body).slots ≤ has.unit.slots
  room =
      let sum : (after_stmt in_body_of there.body).slots ≡ in_body_of.slots + stmt_slots in_body_of.owner (size_by (told_at rs)) there.body =
      summed-stmt (size_by (told_at rs)) in_body_of there.body (stmt_sizes rs ordered there.body in_body_of there.lawful there.tells) in
      let own : stmt_slots in_body_of.owner (size_by (told_at rs)) there.body ≡ stmt_slots owner.OfTask (size_by (told_at rs)) there.body =
      ap (λ o. stmt_slots o (size_by (told_at rs)) there.body) (task_in code file falls rs ordered file_es fits t slots there a.claims).owner in
      let f = first_slots code file falls rs ordered file_es fits t slots there a.claims in
      let n = ap length same_slots in
      omega (arith, sum, own, f, n, has.slots)

  pub task_does : ((e : Ending) (made : List Activation) (n : ControlLimit) → Stops code (task_start has.unit a inputs budget) e made → e ≡ ending.Limited n → ⊥) →
      EndsIn code there.mark.line (task_start has.unit a inputs budget) (task_outcome file these a inputs budget)
  task_does limits =
      task_end c has.unit.slots has.end [] [] a.claims there.mark.line (task_start has.unit a inputs budget) (run (in_function file) there.body begun budget) refl has.falls_off.0 limits
      (stmt_does c [] instr.End has.unit.slots [] [] nothing (λ e d. absurd (cc)) (λ e mark cs x. absurd (cc)) (λ e mark x arrow y. absurd (cc)) there.leveled in_body_of [] begun m0 has.end has.end has.end has.unit.start has.end [] budget
      (record { scope = task_in code file falls rs ordered file_es fits t slots there a.claims; aligned = aligned; kept = (claims_start a.claims inputs, windows_start a.claims inputs claims_ok.1 enough) })
      stacked room frame_long (task_agrees code file falls rs ordered file_es fits t slots there a.claims) (owns_nothing there.body in_body_of) has.body)
