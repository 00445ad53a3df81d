-- How many steps the machine makes for each activation of a run, and how many turns of its budget that takes.
use Rattle.std.specs.Prelude.{◌≡◌, ℕ, ℤ, Bool, true, false, List, None, Option, Some, length, map, slice_get, slice_index_or}
use Rattle.std.specs.Option.{option_map_or}
use Rattle.flow_core_laws.specs.Outcome.{State, ends_of}
use Rattle.flow_core_laws.specs.Round.{inputs_in}
use Rattle.flow_core_laws.specs.Streams.{stream_element, stream_reads}
use Rattle.flow_core_laws.specs.declared.activation.Activation.{Activation}
use Rattle.flow_core_laws.specs.declared.elem.Elem.TheVariants.{Value}
use Rattle.flow_core_laws.specs.declared.task_end.TaskEnd.{TaskEnd}
use Rattle.flow_core_laws.specs.declared.task_end.TaskEnd.TheVariants as task_end
use Rattle.os_code.specs.Outcomes.{code_outcome}
use Rattle.os_code.specs.Tasks.{TaskEnds}
use Rattle.os_code.specs.declared.parts.Parts.{Parts}
use Rattle.osview_steps.specs.declared.runs.Taken.{Taken}
use Rattle.osview_steps.specs.declared.runs.TaskRun.{TaskRun}
use Rattle.task_vm.specs.Turns.{TakesTurns}

-- whether the body of an activation with this end ran: it has an end, and isn't poisoned
abbrev pub did_run : TaskEnd → Bool
did_run task_end.Done = true
did_run (task_end.Trapped code line) = true
did_run task_end.OverBudget = true
did_run (task_end.Poisoned root) = false

abbrev pub has_run : Option TaskEnd → Bool
has_run end = option_map_or did_run end false

-- What an activation takes, in steps and in turns of its budget: all that it reads is there as values, over these the machine ends its task
-- in `taken.steps` steps, and the task takes `taken.turns` turns.
pub record Takes (code : Parts) (activations : List Activation) (input : List ℕ) (budget : ℕ) (meaning : State) (a : ℕ) (activation : Activation)
    (taken : Taken) : Type 0 where
  pub inputs : List ℤ
  pub are_read : inputs_in stream_element (stream_reads activations input) meaning a ≡ Some (map Value inputs)
  pub ends : TaskEnds code activation inputs budget (code_outcome code activation inputs budget) taken.steps
  pub turns : TakesTurns code activation inputs budget taken.turns

-- What each activation of a run takes, with the number of its task; nothing where its body never ran.
pub record AreRuns (code : Parts) (activations : List Activation) (input : List ℕ) (budget : ℕ) (meaning : State) (runs : List TaskRun) : Type 0 where
  pub as_many : length runs ≡ length activations
  pub of_tasks : (a : ℕ) (x : Activation) (r : TaskRun) → slice_get activations a ≡ Some x → slice_get runs a ≡ Some r → r.task ≡ x.site
  pub ran : (a : ℕ) (x : Activation) (r : TaskRun) (taken : Taken) → slice_get activations a ≡ Some x → slice_get runs a ≡ Some r → r.took ≡ Some taken
      → Takes code activations input budget meaning a x taken
  pub never_ran : (a : ℕ) (r : TaskRun) → slice_get runs a ≡ Some r → r.took ≡ None → has_run (slice_index_or (ends_of meaning) a None) ≡ false

-- the steps that an activation took, if it ran
abbrev pub steps_if : Option Taken → Option ℕ
steps_if None = None
steps_if (Some taken) = Some taken.steps

abbrev pub steps_of_runs : List TaskRun → List (Option ℕ)
steps_of_runs runs = map (λ (r : TaskRun). steps_if r.took) runs
