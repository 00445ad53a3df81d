-- That what is given doesn't depend on the number of workers, nor on whether a program is run or its object, as statements.
use Rattle.std.specs.Prelude.{◌≡◌, ℕ, List, [], ◌∷◌, Option, Some}
use Rattle.osrun_core_answer.specs.JobOutcome.{IsOutcome, IsOutcomeOfCompile, IsOutcomeOfExec, IsOutcomeOfRun, IsOutcomeOfTrace, JobOutcome}
use Rattle.osrun_core_jobs.specs.Files.{JobFile}
use Rattle.osrun_core_jobs.specs.Jobs.{CompileJob, Exec, ExecJob, Explain, Gen, Job, Request, Run}

-- the requests are the same, but for the number of workers
abbrev pub SameButForWorkers : Request → Request → Type 0
SameButForWorkers (Run job) (Run other) = (job.program ≡ other.program) × (job.input ≡ other.input)
    × (job.task_budget ≡ other.task_budget) × (job.control_budget ≡ other.control_budget)
SameButForWorkers (Gen job) (Gen other) = (job.seed ≡ other.seed) × (job.blocks ≡ other.blocks)
SameButForWorkers (Exec job) (Exec other) = (job.object ≡ other.object) × (job.input ≡ other.input)
    × (job.task_budget ≡ other.task_budget) × (job.control_budget ≡ other.control_budget)
SameButForWorkers (Explain job) (Explain other) = (job.program ≡ other.program) × (job.input ≡ other.input) × (job.activation ≡ other.activation)
    × (job.task_budget ≡ other.task_budget) × (job.control_budget ≡ other.control_budget)
SameButForWorkers _ _ = ⊥

-- the jobs are of the same run, but for the number of workers
abbrev pub SameRun : Job → Job → Type 0
SameRun job other = SameButForWorkers (Run job) (Run other)

-- what the file holds is told
abbrev pub IsTold : (List ℕ → Option (List ℕ)) → JobFile → Type 0
IsTold holds file = (bytes : List ℕ) × (holds file.name ≡ Some bytes)

-- over the same bytes they are meant to give the same
abbrev pub WorkersChangeNothing : Type 0
WorkersChangeNothing = (contents : List (List ℕ)) (request other : Request) (outcome another : JobOutcome) → SameButForWorkers request other
    → IsOutcome contents request outcome → IsOutcome contents other another → outcome ≡ another

-- `trace` is meant to give the report and the status of `run` over the same bytes, whatever the numbers of workers. So two calls of
-- `trace` that differ in that number alone are meant to give the same report and status, while their traces may differ.
abbrev pub TracesReportAsRuns : Type 0
TracesReportAsRuns = (contents : List (List ℕ)) (trace run : Job) (traced of_run : JobOutcome) → SameRun trace run
    → IsOutcomeOfTrace contents trace traced → IsOutcomeOfRun contents run of_run → (traced.told ≡ of_run.told) × (traced.own ≡ of_run.own)

-- over the same bytes two traces of the same run, but for the number of workers, are meant to give the same report and status
abbrev pub TracesReportTheSame : Type 0
TracesReportTheSame = (contents : List (List ℕ)) (trace other : Job) (traced another : JobOutcome) → SameRun trace other
    → IsOutcomeOfTrace contents trace traced → IsOutcomeOfTrace contents other another → (traced.told ≡ another.told) × (traced.own ≡ another.own)

-- the run of a program and that of an object are asked for with the same budgets
abbrev pub SameBudgets : Job → ExecJob → Type 0
SameBudgets run exec = (run.task_budget ≡ exec.task_budget) × (run.control_budget ≡ exec.control_budget)

-- What `compile` gives of a text is an object of which `exec` gives what `run` gives of the text, over every input and with the
-- same budgets, whatever the numbers of workers.
abbrev pub ObjectsRunAsTexts : Type 0
ObjectsRunAsTexts = (text input : List ℕ) (compile : CompileJob) (exec : ExecJob) (run : Job) (object of_object of_text : JobOutcome)
    → SameBudgets run exec → IsOutcomeOfCompile (text ∷ []) compile object
    → IsOutcomeOfExec (object.output ∷ input ∷ []) exec of_object → IsOutcomeOfRun (text ∷ input ∷ []) run of_text
    → of_object ≡ of_text
