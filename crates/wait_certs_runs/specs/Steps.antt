-- How many steps the machine makes for a run of a code, as statements.
use Rattle.std.specs.Prelude.{◌≡◌, ℕ, ℤ, ◌+◌, ◌*◌, ◌≤◌, List, None, Some, length, slice_get, sum}
use Rattle.epoch_run_bodies.specs.Frames.{frame_outcome}
use Rattle.flow_core_laws.specs.Limits.{budget_limit}
use Rattle.flow_core_laws.specs.Poisoning.{least_root, values_of}
use Rattle.flow_core_laws.specs.Round.{inputs_in}
use Rattle.flow_core_laws.specs.Streams.{stream_element, stream_meaning, stream_reads}
use Rattle.flow_core_laws.specs.declared.activation.Activation.{Activation}
use Rattle.flow_core_laws.specs.declared.control.Control.{Control}
use Rattle.flow_core_laws.specs.declared.elem.Elem.{Elem}
use Rattle.os_code.specs.Control.{ControlEnds}
use Rattle.os_code.specs.IsValid.{IsValid}
use Rattle.os_code.specs.Machine.{most_steps}
use Rattle.os_code.specs.Outcomes.{code_outcome, main_control}
use Rattle.os_code.specs.Tasks.{TaskEnds}
use Rattle.os_code.specs.declared.parts.Parts.{Parts}

-- `main` ends within as many steps as its budget allows: (turns + 1) * (instructions + 1). The run is `main`'s whole one, and so is
-- the number of its steps that a `ControlRun` tells.
abbrev pub MainTakesFewSteps : Type 0
MainTakesFewSteps = (code : Parts) (input_len budget steps : ℕ) (made : Control) → IsValid code → ControlEnds code input_len budget made steps
    → steps ≤ most_steps code budget

-- The body of an activation ran over these inputs: what it reads is all there in the meaning, and none of it is poison.
pub record RanOver (code : Parts) (activations : List Activation) (input : List ℕ) (task_budget a : ℕ) (inputs : List ℤ) : Type 0 where
  pub read : List Elem
  pub is_there : inputs_in stream_element (stream_reads activations input)
      (stream_meaning activations input (frame_outcome code activations task_budget)) a
      ≡ Some read
  pub no_poison : least_root read ≡ None
  pub values : inputs ≡ values_of read

-- A number for each activation: where its body ran, the steps in which the machine ends its task over these inputs, and else 0.
pub record AreSteps (code : Parts) (activations : List Activation) (input : List ℕ) (task_budget : ℕ) (steps : List ℕ) : Type 0 where
  pub one_each : length steps ≡ length activations
  pub ran : (a n : ℕ) (x : Activation) (inputs : List ℤ) → slice_get activations a ≡ Some x → slice_get steps a ≡ Some n
      → RanOver code activations input task_budget a inputs → TaskEnds code x inputs task_budget (code_outcome code x inputs task_budget) n
  pub never_ran : (a n : ℕ) → slice_get steps a ≡ Some n → ((inputs : List ℤ) → RanOver code activations input task_budget a inputs → ⊥) → n ≡ 0

-- The steps of `main` and those of all tasks: together they are no more than the budgets allow for `main` and for the body of each
-- activation. Each run of the machine has one number of steps, so these are no others than those that a run makes.
pub record TakesFewSteps (code : Parts) (input : List ℕ) (task_budget control_budget : ℕ) (made : Control) : Type 0 where
  pub of_main : ℕ
  pub main_ends : ControlEnds code (length input) control_budget made of_main
  pub of_tasks : List ℕ
  pub tasks_end : AreSteps code made.activations input task_budget of_tasks
  pub few : of_main + sum of_tasks ≤ most_steps code control_budget + length made.activations * most_steps code task_budget

-- of every run of a valid code, with a budget for its `main` within the limit
abbrev pub RunsTakeFewSteps : Type 0
RunsTakeFewSteps = (code : Parts) (input : List ℕ) (task_budget control_budget : ℕ) (made : Control) → IsValid code → control_budget ≤ budget_limit
    → made ≡ main_control code (length input) control_budget
    → TakesFewSteps code input task_budget control_budget made
