-- The jobs that words may name.
use Rattle.std.specs.Prelude.{◌≤◌, ℕ, List, Option, Some, None}
use Rattle.flow_core_laws.specs.Limits.{budget_limit, last_activation, workers_limit}
use Rattle.osrun_core_jobs.specs.Limits.{blocks_limit, seed_limit}
use Rattle.osrun_core_jobs.specs.declared.job.CompileJob.{CompileJob as LentCompile}
use Rattle.osrun_core_jobs.specs.declared.job.ExecJob.{ExecJob as LentExec}
use Rattle.osrun_core_jobs.specs.declared.job.ExplainJob.{ExplainJob as LentExplain}
use Rattle.osrun_core_jobs.specs.declared.job.GenJob.{GenJob as LentGen}
use Rattle.osrun_core_jobs.specs.declared.job.Job.{Job as Lent}
use Rattle.osrun_core_jobs.specs.declared.job.ReplayJob.{ReplayJob as LentReplay}
use Rattle.osrun_core_jobs.specs.declared.job.Request.{Request as LentRequest}
use Rattle.osrun_core_jobs.specs.declared.job.Request.TheVariants as lent

-- a run of a program over an input, by the names of their files, with as many workers and turns
pub record Job : Type 0 where
  pub program : List ℕ
  pub input : List ℕ
  pub workers : ℕ
  pub task_budget : ℕ
  pub control_budget : ℕ

-- a run of the kernel `lift` over bytes that are made from a seed, four for each block, with as many workers
pub record GenJob : Type 0 where
  pub seed : ℕ
  pub blocks : ℕ
  pub workers : ℕ

-- a program whose code is written as an object, by the name of its file
pub record CompileJob : Type 0 where
  pub program : List ℕ

-- a run of the code of an object over an input, by the names of their files, with as many workers and turns
pub record ExecJob : Type 0 where
  pub object : List ℕ
  pub input : List ℕ
  pub workers : ℕ
  pub task_budget : ℕ
  pub control_budget : ℕ

-- why an activation of a run never runs: the run of a program over an input, by the names of their files, with as many
-- workers and turns, and the number of the activation
pub record ExplainJob : Type 0 where
  pub program : List ℕ
  pub input : List ℕ
  pub activation : ℕ
  pub workers : ℕ
  pub task_budget : ℕ
  pub control_budget : ℕ

-- the run of which an activation is explained
abbrev pub explained_run : ExplainJob → Job
explained_run job = record {
  program = job.program;
  input = job.input;
  workers = job.workers;
  task_budget = job.task_budget;
  control_budget = job.control_budget;
}

-- a run of a program over an input in the order that a trace tells, by the names of the three files, with as many turns
pub record ReplayJob : Type 0 where
  pub program : List ℕ
  pub input : List ℕ
  pub trace : List ℕ
  pub task_budget : ℕ
  pub control_budget : ℕ

-- what words may ask for
pub data Request : Type 0 where
  Run : Job → Request
  Gen : GenJob → Request
  Compile : CompileJob → Request
  Exec : ExecJob → Request
  Explain : ExplainJob → Request
  Trace : Job → Request
  Replay : ReplayJob → Request

-- the job of a `run` request; none for others
abbrev pub run_in : Request → Option Job
run_in (Run job) = Some job
run_in _ = None

-- the job of a `gen` request; none for others
abbrev pub gen_in : Request → Option GenJob
gen_in (Gen job) = Some job
gen_in _ = None

-- the job of a `compile` request; none for others
abbrev pub compile_in : Request → Option CompileJob
compile_in (Compile job) = Some job
compile_in _ = None

-- the job of an `exec` request; none for others
abbrev pub exec_in : Request → Option ExecJob
exec_in (Exec job) = Some job
exec_in _ = None

-- the job of an `explain` request; none for others
abbrev pub explain_in : Request → Option ExplainJob
explain_in (Explain job) = Some job
explain_in _ = None

-- the job of a `trace` request; none for others
abbrev pub trace_in : Request → Option Job
trace_in (Trace job) = Some job
trace_in _ = None

-- the job of a `replay` request; none for others
abbrev pub replay_in : Request → Option ReplayJob
replay_in (Replay job) = Some job
replay_in _ = None

-- the terms of a run are within their bounds
pub record AreTermsWithin (workers task_budget control_budget : ℕ) : Type 0 where
  pub some_workers : 1 ≤ workers
  pub few_workers : workers ≤ workers_limit
  pub task_turns : task_budget ≤ budget_limit
  pub control_turns : control_budget ≤ budget_limit

-- the numbers of a job are within their bounds
abbrev pub IsWithin : Job → Type 0
IsWithin job = AreTermsWithin job.workers job.task_budget job.control_budget

pub record IsGenWithin (job : GenJob) : Type 0 where
  pub seed_fits : job.seed ≤ seed_limit
  pub some_blocks : 1 ≤ job.blocks
  pub few_blocks : job.blocks ≤ blocks_limit
  pub some_workers : 1 ≤ job.workers
  pub few_workers : job.workers ≤ workers_limit

abbrev pub IsExecWithin : ExecJob → Type 0
IsExecWithin job = AreTermsWithin job.workers job.task_budget job.control_budget

pub record IsExplainWithin (job : ExplainJob) : Type 0 where
  pub few_activations : job.activation ≤ last_activation
  pub terms : AreTermsWithin job.workers job.task_budget job.control_budget

pub record IsReplayWithin (job : ReplayJob) : Type 0 where
  pub task_turns : job.task_budget ≤ budget_limit
  pub control_turns : job.control_budget ≤ budget_limit

abbrev pub IsRequestWithin : Request → Type 0
IsRequestWithin (Run job) = IsWithin job
IsRequestWithin (Gen job) = IsGenWithin job
IsRequestWithin (Compile job) = Unit {0}
IsRequestWithin (Exec job) = IsExecWithin job
IsRequestWithin (Explain job) = IsExplainWithin job
IsRequestWithin (Trace job) = IsWithin job
IsRequestWithin (Replay job) = IsReplayWithin job

-- ---- what the code's values show

-- a job by the texts of its names
abbrev pub job_of : Lent → Job
job_of job = record {
  program = job.program.now;
  input = job.input.now;
  workers = job.terms.workers;
  task_budget = job.terms.task_budget;
  control_budget = job.terms.control_budget;
}

abbrev pub gen_of : LentGen → GenJob
gen_of job = record { seed = job.seed; blocks = job.blocks; workers = job.workers }

abbrev pub compile_of : LentCompile → CompileJob
compile_of job = record { program = job.program.now }

abbrev pub exec_of : LentExec → ExecJob
exec_of job = record {
  object = job.object.now;
  input = job.input.now;
  workers = job.terms.workers;
  task_budget = job.terms.task_budget;
  control_budget = job.terms.control_budget;
}

abbrev pub explain_of : LentExplain → ExplainJob
explain_of job = record {
  program = job.program.now;
  input = job.input.now;
  activation = job.activation;
  workers = job.terms.workers;
  task_budget = job.terms.task_budget;
  control_budget = job.terms.control_budget;
}

abbrev pub replay_of : LentReplay → ReplayJob
replay_of job = record {
  program = job.program.now;
  input = job.input.now;
  trace = job.trace.now;
  task_budget = job.task_budget;
  control_budget = job.control_budget;
}

abbrev pub request_of : LentRequest → Request
request_of (lent.Run job) = Run (job_of job)
request_of (lent.Gen job) = Gen (gen_of job)
request_of (lent.Compile job) = Compile (compile_of job)
request_of (lent.Exec job) = Exec (exec_of job)
request_of (lent.Explain job) = Explain (explain_of job)
request_of (lent.Trace job) = Trace (job_of job)
request_of (lent.Replay job) = Replay (replay_of job)
