-- What `compile` and `exec` come to, by what the files hold where they tell it.
use Rattle.std.specs.Prelude.{◌≡◌, ℕ, List, Option, length}
use Rattle.front_end.specs.Texts.{IsAccepted}
use Rattle.os_ast.specs.Trees.{ProgramTree}
use Rattle.os_code.specs.Outcomes as machine
use Rattle.os_code.specs.declared.parts.Parts.{Parts}
use Rattle.os_object.specs.Object.{Spells}
use Rattle.epoch_run_bodies.specs.Frames.{code_ends}
use Rattle.osrun_core_jobs.specs.Files.{AreBytesOf}
use Rattle.osrun_core_jobs.specs.Jobs.{CompileJob, ExecJob}
use Rattle.osrun_core_jobs.specs.declared.subject.Subject.TheVariants.{Input, Object, Program}
use Rattle.osrun_core_run.specs.Code.{IsCodeOf, IsObjectOf}
use Rattle.osrun_core_run.specs.Run.{ProgramRun}

-- The bytes are the object of a code of the program that the file holds.
pub record IsObjectOfJob (holds : List ℕ → Option (List ℕ)) (job : CompileJob) (object : List ℕ) : Type 0 where
  pub text : List ℕ
  pub text_read : AreBytesOf (holds job.program) Program text
  pub program : ProgramTree
  pub is_program : IsAccepted text program
  pub code : Parts
  pub is_code : IsCodeOf code program
  pub is_object : Spells object code

-- The run is that of the object's code on the machine over the input, with the job's budgets.
pub record IsRunOfObject (holds : List ℕ → Option (List ℕ)) (job : ExecJob) (run : ProgramRun) : Type 0 where
  pub object : List ℕ
  pub object_read : AreBytesOf (holds job.object) Object object
  pub input_read : AreBytesOf (holds job.input) Input run.input
  pub code : Parts
  pub is_object : IsObjectOf object code
  pub control_is : run.control ≡ machine.main_control code (length run.input) job.control_budget
  pub ends_are : run.ends ≡ code_ends code run.control.activations run.input job.task_budget
