-- A run of a program over an input.
use Rattle.std.specs.Prelude.{◌≡◌, ℕ, ℤ, List, Option, length, slice_get}
use Rattle.std.specs.Option.{option_map_or}
use Rattle.cddf_meaning.specs.Body.{body}
use Rattle.cddf_meaning.specs.Control.{control}
use Rattle.flow_core_laws.specs.Outcome.{over_budget}
use Rattle.flow_core_laws.specs.Streams.{meant_ends}
use Rattle.flow_core_laws.specs.declared.activation.Activation.{Activation}
use Rattle.flow_core_laws.specs.declared.control.Control.{Control}
use Rattle.flow_core_laws.specs.declared.ends.Ends.{Ends}
use Rattle.flow_core_laws.specs.declared.outcome.Outcome.{Outcome}
use Rattle.front_end.specs.Texts.{IsAccepted}
use Rattle.os_ast.specs.Trees.{ProgramTree}
use Rattle.osrun_core_jobs.specs.Files.{AreBytesOf}
use Rattle.osrun_core_jobs.specs.Jobs.{Job}
use Rattle.osrun_core_jobs.specs.declared.subject.Subject.TheVariants.{Program, Input}

-- What the activation of a number makes of its inputs: what the body of its task does. A number that no activation has
-- is never asked for.
abbrev pub body_at : ProgramTree → List Activation → (budget number : ℕ) → List ℤ → Outcome
body_at p activations budget number inputs = option_map_or (λ (a : Activation). body p a inputs budget) (slice_get activations number) over_budget

-- What activations come to over an input: the data-flow meaning of their streams, with the bodies of the program.
abbrev pub ends_over : ProgramTree → List Activation → (input : List ℕ) → (budget : ℕ) → Ends
ends_over p activations input budget = meant_ends activations input (body_at p activations budget)

-- A run: what the control program created and how it ended, the input, and what the activations came to over it.
pub record ProgramRun : Type 0 where
  pub control : Control
  pub input : List ℕ
  pub ends : Ends

-- The run of a job: the text was read of its first file and is accepted as a program, the input was read of its second, and
-- the run is that of the program over the input, with the job's budgets.
pub record IsRunOfJob (holds : List ℕ → Option (List ℕ)) (job : Job) (run : ProgramRun) : Type 0 where
  pub text : List ℕ
  pub text_read : AreBytesOf (holds job.program) Program text
  pub input_read : AreBytesOf (holds job.input) Input run.input
  pub program : ProgramTree
  pub is_program : IsAccepted text program
  pub control_is : run.control ≡ control program (length run.input) job.control_budget
  pub ends_are : run.ends ≡ ends_over program run.control.activations run.input job.task_budget
