-- Small programs with activations that fail, with what the definitions make of them.
use Rattle.std.proofs.Common.{◌≡◌, ℕ, zero, suc, ◌<◌, length, ap, arith, ℤ, pos, List, [], ◌∷◌, Option, Some, None, true, false, map, refl}
use Rattle.std.specs.Prelude.{slice_get, slice_index_or}
use Rattle.std.proofs.lemmas.Option.{same_Some}
use Rattle.flow_core_laws.specs.declared.claim.Claim.{Claim}
use Rattle.flow_core_laws.specs.declared.activation.Activation.{Activation}
use Rattle.flow_core_laws.specs.Round.{round, rounds, meaning}
use Rattle.flow_core_laws.specs.Window.{windows}
use Rattle.flow_core_laws.specs.Place.{input_places}
use Rattle.flow_core_laws.specs.Streams.{output_count, stream_reads, stream_element, stream_meaning, output_elements}
use Rattle.flow_core_laws.specs.declared.elem.Elem.TheVariants.{Value, Poison}
use Rattle.flow_core_laws.specs.declared.task_end.TaskEnd.{TaskEnd}
use Rattle.flow_core_laws.specs.declared.task_end.TaskEnd.TheVariants.{Done, Trapped, OverBudget, Poisoned}
use Rattle.flow_core_laws.specs.declared.outcome.Outcome.{Outcome}
use Rattle.flow_core_laws.specs.declared.plan.Plan.{Plan}
use Rattle.flow_core_laws.specs.Outcome.{outcome_of, State, ends_of}
use Rattle.flow_core_laws.specs.Poisoning.{poisoning, least_root, values_of}
use Rattle.flow_core_laws.specs.There.{missing_place}
use Rattle.flow_core_laws.specs.Plans.{frame_at, cell_source, plan_reads, plan_meaning, sink_elements}
use Rattle.flow_core_laws.specs.IsSound.{IsSound}
use Rattle.flow_core_laws.specs.StandsFor.{StandsFor}
use Rattle.flow_core_laws.proofs.SoundTests.{IsSound-from_tests}

-- a read claim with a horizon, a burst and a skip, and a write claim
abbrev reads_with : ℕ → ℕ → ℕ → ℕ → Claim
reads_with stream horizon burst skip = record { stream = stream; write = false; horizon = horizon; burst = burst; skip = skip }

abbrev reads : ℕ → ℕ → Claim
reads stream horizon = reads_with stream horizon horizon 0

abbrev writes : ℕ → ℕ → Claim
writes stream horizon = record { stream = stream; write = true; horizon = horizon; burst = horizon; skip = 0 }

abbrev task : List Claim → Activation
task claims = record { site = 0; captured = []; claims = claims }

-- what a body does: it gives its inputs, or these outputs, or ends in another way
data Doing : Type 0 where
  copies : Doing
  gives : List ℤ → Doing
  fails : TaskEnd → Doing

abbrev does : Doing → List ℤ → Outcome
does copies inputs = outcome_of Done inputs
does (gives outputs) inputs = outcome_of Done outputs
does (fails end) inputs = outcome_of end inputs

-- each activation has a body of its own
abbrev bodies : List Doing → ℕ → List ℤ → Outcome
bodies doings activation inputs = does (slice_index_or doings activation copies) inputs

-- outcomes: done with these outputs, or another end
abbrev done : List ℤ → Option Outcome
done outputs = Some (outcome_of Done outputs)

abbrev ended : TaskEnd → Option Outcome
ended end = Some (outcome_of end [])

-- a trap poisons its reader, and that one hands the root on; a third activation, which reads the second one's
-- poison and an element that nobody writes, starves
handed_on : List Activation
handed_on = task (writes 2 1 ∷ []) ∷ task (reads 2 1 ∷ writes 2 1 ∷ []) ∷ task (reads 2 2 ∷ writes 1 1 ∷ []) ∷ []

abbrev handed_on_state : State
handed_on_state = ended (Trapped 2 5) ∷ ended (Poisoned 0) ∷ None ∷ []

handed_on_means : stream_meaning handed_on [] (bodies (fails (Trapped 2 5) ∷ [])) ≡ handed_on_state
unfolding handed_on windows input_places meaning rounds round
handed_on_means = refl

handed_on_misses : map (missing_place handed_on 0 (ends_of handed_on_state)) (0 ∷ 1 ∷ 2 ∷ []) ≡ None ∷ None ∷ Some (record { stream = 2; position = 2 }) ∷ []
unfolding handed_on windows input_places
handed_on_misses = refl

handed_on_writes : output_elements handed_on [] handed_on_state ≡ None ∷ []
unfolding handed_on windows
handed_on_writes = refl

-- of two roots the least one poisons, though its element comes second
two_roots : List Activation
two_roots = task (writes 2 1 ∷ []) ∷ task (writes 3 1 ∷ []) ∷ task (reads 3 1 ∷ reads 2 1 ∷ writes 1 1 ∷ []) ∷ []

abbrev two_roots_state : State
two_roots_state = ended (Trapped 2 5) ∷ ended (Trapped 2 7) ∷ ended (Poisoned 0) ∷ []

two_roots_means : stream_meaning two_roots [] (bodies (fails (Trapped 2 5) ∷ fails (Trapped 2 7) ∷ [])) ≡ two_roots_state
unfolding two_roots windows input_places meaning rounds round
two_roots_means = refl

two_roots_writes : output_elements two_roots [] two_roots_state ≡ Some (Poison 0) ∷ []
unfolding two_roots windows
two_roots_writes = refl

-- and where it comes first
two_roots_turned : List Activation
two_roots_turned = task (writes 2 1 ∷ []) ∷ task (writes 3 1 ∷ []) ∷ task (reads 2 1 ∷ reads 3 1 ∷ []) ∷ []

two_roots_turned_means : stream_meaning two_roots_turned [] (bodies (fails OverBudget ∷ fails (Trapped 2 7) ∷ [])) ≡ ended OverBudget ∷ ended (Trapped 2 7) ∷ ended (Poisoned 0) ∷ []
unfolding two_roots_turned windows input_places meaning rounds round
two_roots_turned_means = refl

-- values beside poison are left out, and of the poison the least root is taken
mixed : least_root (Value (pos 4) ∷ Poison 6 ∷ Poison 3 ∷ Value (pos 5) ∷ Poison 9 ∷ []) ≡ Some 3
mixed = refl

mixed_values : values_of (Value (pos 4) ∷ Poison 6 ∷ Value (pos 5) ∷ []) ≡ pos 4 ∷ pos 5 ∷ []
mixed_values = refl

-- used-up turns poison too, each element of each output window
both_windows : List Activation
both_windows = task (writes 2 2 ∷ writes 3 1 ∷ []) ∷ task (reads 2 1 ∷ []) ∷ task (reads 2 1 ∷ []) ∷ task (reads 3 1 ∷ []) ∷ []

both_windows_mean : stream_meaning both_windows [] (bodies (fails OverBudget ∷ [])) ≡ ended OverBudget ∷ ended (Poisoned 0) ∷ ended (Poisoned 0) ∷ ended (Poisoned 0) ∷ []
unfolding both_windows windows input_places meaning rounds round
both_windows_mean = refl

-- two readers peek at one poisoned element, and the one that a tick takes past it reads the value behind
peek : List Activation
peek =
    task (writes 2 1 ∷ []) ∷ task (writes 2 1 ∷ []) ∷ task (reads_with 2 1 0 0 ∷ writes 1 1 ∷ []) ∷ task (reads_with 2 1 0 0 ∷ writes 1 1 ∷ []) ∷ task (reads_with 2 1 1 1 ∷ writes 1 1 ∷ []) ∷ []

abbrev peek_state : State
peek_state = ended (Trapped 1 3) ∷ done (pos 8 ∷ []) ∷ ended (Poisoned 0) ∷ ended (Poisoned 0) ∷ done (pos 8 ∷ []) ∷ []

peek_means : stream_meaning peek [] (bodies (fails (Trapped 1 3) ∷ gives (pos 8 ∷ []) ∷ [])) ≡ peek_state
unfolding peek windows input_places meaning rounds round
peek_means = refl

peek_writes : output_elements peek [] peek_state ≡ Some (Poison 0) ∷ Some (Poison 0) ∷ Some (Value (pos 8)) ∷ []
unfolding peek windows
peek_writes = refl

-- overlapping windows are poisoned as far as they cover a poisoned element
overlap : List Activation
overlap =
    task (writes 2 1 ∷ []) ∷ task (writes 2 1 ∷ []) ∷ task (writes 2 2 ∷ []) ∷ task (reads_with 2 2 1 0 ∷ writes 1 2 ∷ []) ∷ task (reads_with 2 2 1 0 ∷ writes 1 2 ∷ []) ∷ task (reads_with 2 2 1 0 ∷ writes 1 2 ∷ []) ∷ []

abbrev overlap_state : State
overlap_state = done (pos 1 ∷ []) ∷ ended (Trapped 4 9) ∷ done (pos 3 ∷ pos 4 ∷ []) ∷ ended (Poisoned 1) ∷ ended (Poisoned 1) ∷ done (pos 3 ∷ pos 4 ∷ []) ∷ []

overlap_means : stream_meaning overlap [] (bodies (gives (pos 1 ∷ []) ∷ fails (Trapped 4 9) ∷ gives (pos 3 ∷ pos 4 ∷ []) ∷ [])) ≡ overlap_state
unfolding overlap windows input_places meaning rounds round
overlap_means = refl

overlap_writes : output_elements overlap [] overlap_state ≡ Some (Poison 1) ∷ Some (Poison 1) ∷ Some (Poison 1) ∷ Some (Poison 1) ∷ Some (Value (pos 3)) ∷ Some (Value (pos 4)) ∷ []
unfolding overlap windows
overlap_writes = refl

-- a poisoned element that nobody reads poisons nobody
unread : List Activation
unread = task (writes 2 1 ∷ []) ∷ task (reads 0 1 ∷ writes 1 1 ∷ []) ∷ []

unread_means : stream_meaning unread (65 ∷ []) (bodies (fails (Trapped 5 2) ∷ [])) ≡ ended (Trapped 5 2) ∷ done (pos 65 ∷ []) ∷ []
unfolding unread windows input_places meaning rounds round
unread_means = refl

-- a trap in the middle leaves poison in the output
gap : List Activation
gap = task (reads 0 1 ∷ writes 1 1 ∷ []) ∷ task (reads 0 1 ∷ writes 1 1 ∷ []) ∷ task (reads 0 1 ∷ writes 1 1 ∷ []) ∷ []

abbrev gap_state : State
gap_state = done (pos 50 ∷ []) ∷ ended (Trapped 2 6) ∷ done (pos 20 ∷ []) ∷ []

gap_means : stream_meaning gap (50 ∷ 0 ∷ 20 ∷ []) (bodies (copies ∷ fails (Trapped 2 6) ∷ copies ∷ [])) ≡ gap_state
unfolding gap windows input_places meaning rounds round
gap_means = refl

gap_writes : output_elements gap (50 ∷ 0 ∷ 20 ∷ []) gap_state ≡ Some (Value (pos 50)) ∷ Some (Poison 1) ∷ Some (Value (pos 20)) ∷ []
unfolding gap windows
gap_writes = refl

-- a reader that is created before its writer waits a round, and is poisoned by an activation behind it
early : List Activation
early = task (reads 2 1 ∷ writes 1 1 ∷ []) ∷ task (writes 2 1 ∷ []) ∷ []

early_waits : rounds stream_element (stream_reads early []) (poisoning (bodies (copies ∷ fails OverBudget ∷ []))) 1 (None ∷ None ∷ []) ≡ None ∷ ended OverBudget ∷ []
unfolding early windows input_places rounds round
early_waits = refl

early_means : stream_meaning early [] (bodies (copies ∷ fails OverBudget ∷ [])) ≡ ended (Poisoned 1) ∷ ended OverBudget ∷ []
unfolding early windows input_places meaning rounds round
early_means = refl

-- a poisoned activation runs no body: it ends by the root, and not by the trap that it would hit
never_runs : List Activation
never_runs = task (writes 2 1 ∷ []) ∷ task (reads 2 1 ∷ writes 3 1 ∷ []) ∷ task (reads 3 1 ∷ []) ∷ []

never_runs_means : stream_meaning never_runs [] (bodies (fails (Trapped 2 5) ∷ fails (Trapped 7 8) ∷ fails OverBudget ∷ [])) ≡ ended (Trapped 2 5) ∷ ended (Poisoned 0) ∷ ended (Poisoned 0) ∷ []
unfolding never_runs windows input_places meaning rounds round
never_runs_means = refl

-- a cycle starves, though a poisoned element is among what it reads; who reads of it starves too
cycle : List Activation
cycle = task (writes 4 1 ∷ []) ∷ task (reads 2 1 ∷ reads 4 1 ∷ writes 3 1 ∷ []) ∷ task (reads 3 1 ∷ writes 2 1 ∷ writes 5 1 ∷ []) ∷ task (reads 5 1 ∷ []) ∷ []

cycle_means : stream_meaning cycle [] (bodies (fails (Trapped 2 5) ∷ [])) ≡ ended (Trapped 2 5) ∷ None ∷ None ∷ None ∷ []
unfolding cycle windows input_places meaning rounds round
cycle_means = refl

-- an input that is too short starves the reader, and the reader of what it would write, and poisons nobody
short : List Activation
short = task (reads 0 4 ∷ writes 2 1 ∷ []) ∷ task (reads 2 1 ∷ writes 1 1 ∷ []) ∷ []

short_means : stream_meaning short (1 ∷ 2 ∷ []) (bodies []) ≡ None ∷ None ∷ []
unfolding short windows input_places meaning rounds round
short_means = refl

-- a plan that stands for the reader which is created before its writer
early_plan : Plan
early_plan = record {
  frames = record { cell = 0; inputs = 1; outputs = 1; wait = 1; piece = 0; pieces = 1 } ∷ record { cell = 1; inputs = 0; outputs = 1; wait = 0; piece = 1; pieces = 1 } ∷ [];
  sink = record { cell = 1; inputs = 1; outputs = 0; wait = 1; piece = 2; pieces = 0 };
  pieces = record { from = 0; to = 2; first = 0; count = 1; at = 1 } ∷ record { from = 1; to = 0; first = 0; count = 1; at = 0 } ∷ [];
  filled = None ∷ None ∷ [];
  numbers = 0 ∷ 1 ∷ [];
}

early_plan_is_sound : IsSound early_plan
unfolding early_plan
early_plan_is_sound = IsSound-from_tests early_plan refl refl refl refl refl refl refl refl refl refl refl refl refl refl

early_plan_stands : StandsFor early_plan early []
unfolding early_plan early windows input_places cell_source
early_plan_stands = record {
  frames_are_activations = refl;
  numbers_are_their_own = refl;
  outputs_are_written = outputs;
  cells_are_window_elements = cells;
  sink_is_the_output = refl;
}
  where
    outputs : (a : ℕ) (x : Activation) → slice_get early a ≡ Some x → (frame_at early_plan a).outputs ≡ output_count x
    outputs zero x h = ap output_count (same_Some _ x h)
    outputs (suc zero) x h = ap output_count (same_Some _ x h)
    outputs (suc (suc a)) x h = absurd (cc)

    cells : (a : ℕ) → a < length early → plan_reads early_plan a ≡ stream_reads early [] a
    cells zero lt = refl
    cells (suc zero) lt = refl
    cells (suc (suc a)) lt = absurd (omega arith)

early_plan_means : plan_meaning early_plan (bodies (copies ∷ fails OverBudget ∷ [])) ≡ ended (Poisoned 1) ∷ ended OverBudget ∷ []
unfolding early_plan meaning rounds round cell_source
early_plan_means = refl

early_plan_gives : sink_elements early_plan (ended (Poisoned 1) ∷ ended OverBudget ∷ []) ≡ Some (Poison 1) ∷ []
unfolding early_plan cell_source
early_plan_gives = refl

-- in a plan of activations 4, 7 and 9 poison names the activations, and not the frames; of what a cell holds at
-- opening it names what stands there
later_plan : Plan
later_plan = record {
  frames =
      record { cell = 0; inputs = 1; outputs = 1; wait = 0; piece = 0; pieces = 1 } ∷ record { cell = 1; inputs = 1; outputs = 1; wait = 1; piece = 1; pieces = 1 } ∷ record { cell = 2; inputs = 2; outputs = 1; wait = 1; piece = 2; pieces = 1 } ∷ [];
  sink = record { cell = 4; inputs = 1; outputs = 0; wait = 1; piece = 3; pieces = 0 };
  pieces =
      record { from = 0; to = 1; first = 0; count = 1; at = 1 } ∷ record { from = 1; to = 2; first = 0; count = 1; at = 2 } ∷ record { from = 2; to = 3; first = 0; count = 1; at = 4 } ∷ [];
  filled = Some (Value (pos 6)) ∷ None ∷ None ∷ Some (Poison 5) ∷ None ∷ [];
  numbers = 4 ∷ 7 ∷ 9 ∷ [];
}

later_plan_is_sound : IsSound later_plan
unfolding later_plan
later_plan_is_sound = IsSound-from_tests later_plan refl refl refl refl refl refl refl refl refl refl refl refl refl refl

later_plan_means : plan_meaning later_plan (bodies (fails (Trapped 1 1) ∷ [])) ≡ ended (Trapped 1 1) ∷ ended (Poisoned 4) ∷ ended (Poisoned 4) ∷ []
unfolding later_plan meaning rounds round cell_source
later_plan_means = refl

-- where the first one is done, the trap of frame 1 has its activation's number, and the poison at opening is the least
later_plan_by_another : plan_meaning later_plan (bodies (copies ∷ fails (Trapped 1 1) ∷ [])) ≡ done (pos 6 ∷ []) ∷ ended (Trapped 1 1) ∷ ended (Poisoned 5) ∷ []
unfolding later_plan meaning rounds round cell_source
later_plan_by_another = refl

later_plan_gives : sink_elements later_plan (done (pos 6 ∷ []) ∷ ended (Trapped 1 1) ∷ ended (Poisoned 5) ∷ []) ≡ Some (Poison 5) ∷ []
unfolding later_plan cell_source
later_plan_gives = refl
