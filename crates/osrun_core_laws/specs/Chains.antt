-- Why activations starve in the runs of jobs, and what `explain` tells of it, as statements.
use Rattle.std.specs.Prelude.{◌≡◌, ℕ, List, Option, Some, length}
use Rattle.collector.specs.declared.missing.Missing.{Missing}
use Rattle.osrun_core.specs.Codes.{IsRunOfObject}
use Rattle.osrun_core.specs.Lines.{IsLineOfJob}
use Rattle.osrun_core_jobs.specs.Jobs.{ExecJob, ExplainJob, IsExecWithin, IsExplainWithin, IsWithin, Job, explained_run}
use Rattle.osrun_core_jobs.specs.Status.{all_done}
use Rattle.osrun_core_run.specs.Run.{IsRunOfJob, ProgramRun}
use Rattle.wait_certs.specs.Finding.{chain_line}
use Rattle.wait_certs_runs.specs.Starving.{IsChainOf, StarveByChains}

-- the activations of a run starve by chains, over its input and by the ends that they came to
abbrev pub StarvesByChains : ProgramRun → Type 0
StarvesByChains run = StarveByChains run.control.activations run.input run.ends

-- a fact of every run of a job whose numbers are within their bounds, as those of each job are that words name
abbrev pub OfRunsWithin : (ProgramRun → Type 0) → Type 0
OfRunsWithin fact = (holds : List ℕ → Option (List ℕ)) (job : Job) (run : ProgramRun) → IsWithin job → IsRunOfJob holds job run → fact run

-- a fact of every run of an object by such a job
abbrev pub OfObjectRunsWithin : (ProgramRun → Type 0) → Type 0
OfObjectRunsWithin fact = (holds : List ℕ → Option (List ℕ)) (job : ExecJob) (run : ProgramRun) → IsExecWithin job → IsRunOfObject holds job run → fact run

-- The line tells the chain of the job's activation in a run of its program over its input, which has `given` bytes: its members, and the
-- element that the last one misses.
pub record IsChainOfJob (holds : List ℕ → Option (List ℕ)) (job : ExplainJob) (given : ℕ) (line : List ℕ) : Type 0 where
  pub run : ProgramRun
  pub is_run : IsRunOfJob holds (explained_run job) run
  pub given_is : given ≡ length run.input
  pub members : List ℕ
  pub last : Missing
  pub is_chain : IsChainOf run.control.activations (length run.input) run.ends job.activation members last
  pub line_is : line ≡ chain_line members (Some last)

-- a line that is told of an activation with the status 0 is that of its chain
abbrev pub LinesTellChains : Type 0
LinesTellChains = (holds : List ℕ → Option (List ℕ)) (job : ExplainJob) (given : ℕ) (line : List ℕ) → IsExplainWithin job
    → IsLineOfJob holds job given line all_done → IsChainOfJob holds job given line
