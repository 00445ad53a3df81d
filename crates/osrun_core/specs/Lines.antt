-- What `explain` comes to, by what the files hold where they tell it.
use Rattle.std.specs.Prelude.{◌≡◌, ℕ, List, Option, length}
use Rattle.osrun_core_answer.specs.Explained.{Explains}
use Rattle.osrun_core_jobs.specs.Jobs.{ExplainJob, explained_run}
use Rattle.osrun_core_run.specs.Run.{IsRunOfJob, ProgramRun}

-- The line and the status tell of the job's activation in a run of its program over its input, which has `given` bytes.
pub record IsLineOfJob (holds : List ℕ → Option (List ℕ)) (job : ExplainJob) (given : ℕ) (line : List ℕ) (own : ℕ) : Type 0 where
  pub run : ProgramRun
  pub is_run : IsRunOfJob holds (explained_run job) run
  pub given_is : given ≡ length run.input
  pub explains : Explains run.control.activations (length run.input) run.ends.ends job.activation line own
