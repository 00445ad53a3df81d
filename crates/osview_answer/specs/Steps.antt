-- What is told of the steps of the run of a program over an input.
use Rattle.std.specs.Prelude.{◌≡◌, ℕ, List, length, map}
use Rattle.cddf_meaning.specs.Control.{control}
use Rattle.collector.specs.Status.{status}
use Rattle.control_run.specs.Stretches.{MainTakes}
use Rattle.flow_core_laws.specs.Outcome.{State, ends_of}
use Rattle.flow_core_laws.specs.Streams.{stream_meaning, stream_reads}
use Rattle.flow_core_laws.specs.declared.control.Control.{Control}
use Rattle.front_end.specs.Texts.{IsAccepted}
use Rattle.lowering_relation.specs.Tasks.{TaskTree, program_tasks}
use Rattle.os_ast.specs.Trees.{ProgramTree}
use Rattle.os_code.specs.Control.{ControlEnds}
use Rattle.os_code.specs.declared.parts.Parts.{Parts}
use Rattle.osrun_core_run.specs.Code.{IsCodeOf}
use Rattle.osrun_core_run.specs.Run.{body_at}
use Rattle.osview_chains.specs.Chains.{IsLongest}
use Rattle.osview_steps.specs.Lines.{steps_lines}
use Rattle.osview_steps.specs.Steps.{AreRuns, steps_of_runs}
use Rattle.osview_steps.specs.declared.runs.Taken.{Taken}
use Rattle.osview_steps.specs.declared.runs.TaskRun.{TaskRun}

-- the line of each task's pragma, in the order of the text
abbrev pub pragma_lines : ProgramTree → List ℕ
pragma_lines program = map (λ (t : TaskTree). t.mark.line) (program_tasks program)

-- The lines of the steps and turns that `main` and the activations take in the run of a program over an input, with these budgets, and
-- the status of that run. They are those of a code of the program; which one isn't said.
pub record AreSteps (task_budget control_budget : ℕ) (program : ProgramTree) (input : List ℕ) (told : List ℕ) (own : ℕ) : Type 0 where
  pub code : Parts
  pub is_code : IsCodeOf code program
  pub made : Control
  pub made_is : made ≡ control program (length input) control_budget
  pub meaning : State
  pub meaning_is : meaning ≡ stream_meaning made.activations input (body_at program made.activations task_budget)
  pub runs : List TaskRun
  pub are_runs : AreRuns code made.activations input task_budget meaning runs
  pub longest : ℕ
  pub is_longest : IsLongest (stream_reads made.activations input) (steps_of_runs runs) longest
  pub main : Taken
  pub main_steps : ControlEnds code (length input) control_budget made main.steps
  pub main_turns : MainTakes code (length input) control_budget main.turns
  pub told_is : told ≡ steps_lines (pragma_lines program) runs main longest
  pub own_is : own ≡ status (ends_of meaning) made.end

-- The lines tell the steps of a run of the program of a text.
pub record AreStepsOf (task_budget control_budget : ℕ) (text input : List ℕ) (told : List ℕ) (own : ℕ) : Type 0 where
  pub program : ProgramTree
  pub is_program : IsAccepted text program
  pub are_steps : AreSteps task_budget control_budget program input told own
