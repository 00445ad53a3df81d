-- What one activation takes, by what is kept of it.
use Rattle.std.specs.Prelude.{◌≡◌, ℕ, ℤ, List, [], None, Option, Some, false, slice_get, slice_index_or, true}
use Rattle.flow_core_laws.specs.declared.activation.Activation.{Activation}
use Rattle.flow_core_laws.specs.declared.task_end.TaskEnd.{TaskEnd}
use Rattle.os_code.specs.Outcomes.{code_outcome}
use Rattle.os_code.specs.Tasks.{TaskEnds}
use Rattle.os_code.specs.declared.parts.Parts.{Parts}
use Rattle.osview_outcomes.specs.declared.kept.Outcomes.{Outcomes}
use Rattle.osview_steps.specs.Steps.{has_run}
use Rattle.osview_steps.specs.declared.runs.Taken.{Taken}
use Rattle.osview_steps.specs.declared.runs.TaskRun.{TaskRun}
use Rattle.task_vm.specs.Turns.{TakesTurns}

-- the end of an activation that is kept, and what is kept that it read
abbrev pub end_at : Outcomes → ℕ → Option TaskEnd
end_at outcomes a = slice_index_or outcomes.ends.items a None

abbrev pub inputs_at : Outcomes → ℕ → List ℤ
inputs_at outcomes a = slice_index_or outcomes.inputs a []

-- what an activation with this end took over what it read, in steps and in turns; nothing is told where it never ran
abbrev pub Took : Parts → Activation → List ℤ → (budget : ℕ) → Option TaskEnd → Option Taken → Type 0
Took code activation inputs budget end None = has_run end ≡ false
Took code activation inputs budget end (Some taken) =
    (has_run end ≡ true) × TaskEnds code activation inputs budget (code_outcome code activation inputs budget) taken.steps
    × TakesTurns code activation inputs budget taken.turns

-- each of the first activations took as much as its run says
pub record HaveRun (code : Parts) (activations : List Activation) (budget : ℕ) (outcomes : Outcomes) (runs : List TaskRun) : Type 0 where
  pub of_tasks : (a : ℕ) (x : Activation) (r : TaskRun) → slice_get activations a ≡ Some x → slice_get runs a ≡ Some r → r.task ≡ x.site
  pub took : (a : ℕ) (x : Activation) (r : TaskRun) → slice_get activations a ≡ Some x → slice_get runs a ≡ Some r
      → Took code x (inputs_at outcomes a) budget (end_at outcomes a) r.took
