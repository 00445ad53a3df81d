-- What a request is meant to give.
use Rattle.std.specs.Prelude.{◌≡◌, ℕ, All, List, [], ◌∷◌, length}
use Rattle.cddf_meaning.specs.Control.{control}
use Rattle.collector.specs.Report.{report}
use Rattle.collector.specs.Status.{status}
use Rattle.collector.specs.Written.{written}
use Rattle.epoch_run.specs.declared.result.Budgets.{Budgets}
use Rattle.flow_core_laws.specs.declared.control.Control.{Control}
use Rattle.flow_core_laws.specs.declared.plan.Plan.{Plan}
use Rattle.front_end.specs.Texts.{IsAccepted}
use Rattle.os_ast.specs.Trees.{ProgramTree}
use Rattle.os_code.specs.Outcomes as machine
use Rattle.os_code.specs.Tasks.{Fits}
use Rattle.os_code.specs.declared.parts.Parts.{Parts}
use Rattle.os_object.specs.Object.{Spells}
use Rattle.epoch_run_bodies.specs.Frames.{code_ends}
use Rattle.osrun_core_answer.specs.Explained.{Explains}
use Rattle.osrun_core_answer.specs.Gen.{IsRunOfGen, gen_lines}
use Rattle.osrun_core_jobs.specs.Jobs.{Compile, CompileJob, Exec, ExecJob, Explain, ExplainJob, Gen}
use Rattle.osrun_core_jobs.specs.Jobs.{GenJob, Job, Replay, ReplayJob, Request, Run, Trace}
use Rattle.osrun_core_jobs.specs.Status.{status_code}
use Rattle.osrun_core_jobs.specs.declared.status.Status.TheVariants as statuses
use Rattle.osrun_core_run.specs.Code.{IsCodeOf, IsObjectOf}
use Rattle.osrun_core_run.specs.Replay.{IsReplayOf}
use Rattle.osrun_core_run.specs.ReplayLine.{IsReplayLine}
use Rattle.osrun_core_run.specs.Run.{ProgramRun, ends_over}
use Rattle.task_workers.specs.Logged.{HoldTheEnded}
use Rattle.trace_replay_laws.specs.declared.replayed.Replayed.{Replayed}
use Rattle.trace_replay_laws.specs.declared.replayed.Replayed.TheVariants.{Whole, Short, Stuck, Repeat, Stranger}
use Rattle.trace_replay_text.specs.Trace.{IsTraceOf, trace}

-- what is written on the output, what is told on the report, and the status
pub record JobOutcome : Type 0 where
  pub output : List ℕ
  pub told : List ℕ
  pub own : ℕ

-- Of `run`: the first file's bytes are accepted as a program, and the run is that of the program over the second one's, with the
-- job's budgets. Its output, its report and its status are given.
pub record IsOutcomeOfRun (contents : List (List ℕ)) (job : Job) (outcome : JobOutcome) : Type 0 where
  pub text : List ℕ
  pub run : ProgramRun
  pub contents_are : contents ≡ text ∷ run.input ∷ []
  pub program : ProgramTree
  pub is_program : IsAccepted text program
  pub control_is : run.control ≡ control program (length run.input) job.control_budget
  pub ends_are : run.ends ≡ ends_over program run.control.activations run.input job.task_budget
  pub output_is : outcome.output ≡ written run.ends.output
  pub report_is : outcome.told ≡ report run.control.activations (length run.input) run.ends run.control.end
  pub status_is : outcome.own ≡ status run.ends.ends run.control.end

-- Of `gen`: the four lines of the run over the bytes that are made, with no report, and the status 0.
pub record IsOutcomeOfGen (contents : List (List ℕ)) (job : GenJob) (outcome : JobOutcome) : Type 0 where
  pub no_contents : contents ≡ []
  pub run : ProgramRun
  pub is_run : IsRunOfGen job run
  pub output_is : outcome.output ≡ gen_lines job run
  pub report_is : outcome.told ≡ []
  pub status_is : outcome.own ≡ status_code statuses.AllDone

-- Of `compile`: the file's bytes are accepted as a program, and the output is the object of a code of it. Which one of its codes
-- that is isn't said. There is no report, and the status is 0.
pub record IsOutcomeOfCompile (contents : List (List ℕ)) (job : CompileJob) (outcome : JobOutcome) : Type 0 where
  pub text : List ℕ
  pub contents_are : contents ≡ text ∷ []
  pub program : ProgramTree
  pub is_program : IsAccepted text program
  pub code : Parts
  pub is_code : IsCodeOf code program
  pub is_object : Spells outcome.output code
  pub report_is : outcome.told ≡ []
  pub status_is : outcome.own ≡ status_code statuses.AllDone

-- Of `exec`: the first file's bytes are the object of a valid code, and the run is that of the code on the machine over the
-- second one's bytes, with the job's budgets. Each activation that its `main` creates fits the code. Its output, its report and its
-- status are given.
pub record IsOutcomeOfExec (contents : List (List ℕ)) (job : ExecJob) (outcome : JobOutcome) : Type 0 where
  pub object : List ℕ
  pub run : ProgramRun
  pub contents_are : contents ≡ object ∷ run.input ∷ []
  pub code : Parts
  pub is_object : IsObjectOf object code
  pub control_is : run.control ≡ machine.main_control code (length run.input) job.control_budget
  pub fit : All (Fits code) run.control.activations
  pub ends_are : run.ends ≡ code_ends code run.control.activations run.input job.task_budget
  pub output_is : outcome.output ≡ written run.ends.output
  pub report_is : outcome.told ≡ report run.control.activations (length run.input) run.ends run.control.end
  pub status_is : outcome.own ≡ status run.ends.ends run.control.end

-- Of `explain`: the run is that of `run` with the same files and budgets. The output is the line that tells of the activation, and
-- the status is that line's. There is no report.
pub record IsOutcomeOfExplain (contents : List (List ℕ)) (job : ExplainJob) (outcome : JobOutcome) : Type 0 where
  pub text : List ℕ
  pub run : ProgramRun
  pub contents_are : contents ≡ text ∷ run.input ∷ []
  pub program : ProgramTree
  pub is_program : IsAccepted text program
  pub control_is : run.control ≡ control program (length run.input) job.control_budget
  pub ends_are : run.ends ≡ ends_over program run.control.activations run.input job.task_budget
  pub explains : Explains run.control.activations (length run.input) run.ends.ends job.activation outcome.output outcome.own
  pub report_is : outcome.told ≡ []

-- Of `trace`: the run is that of `run` with the same files and budgets. The output is the trace of some lists, one for each worker:
-- each activation of the run that has an end stands in them once, and nothing else does. Which worker ran what, and when, isn't said.
-- The report and the status are those of the run.
pub record IsOutcomeOfTrace (contents : List (List ℕ)) (job : Job) (outcome : JobOutcome) : Type 0 where
  pub text : List ℕ
  pub run : ProgramRun
  pub contents_are : contents ≡ text ∷ run.input ∷ []
  pub program : ProgramTree
  pub is_program : IsAccepted text program
  pub control_is : run.control ≡ control program (length run.input) job.control_budget
  pub ends_are : run.ends ≡ ends_over program run.control.activations run.input job.task_budget
  pub lists : List (List ℕ)
  pub one_each : length lists ≡ job.workers
  pub hold_the_ended : HoldTheEnded run.ends.ends lists
  pub output_is : outcome.output ≡ trace lists
  pub report_is : outcome.told ≡ report run.control.activations (length run.input) run.ends run.control.end
  pub status_is : outcome.own ≡ status run.ends.ends run.control.end

-- what is meant to be given of a run: the output's bytes, its report and its status
pub record GivesRun (run : ProgramRun) (outcome : JobOutcome) : Type 0 where
  pub output_is : outcome.output ≡ written run.ends.output
  pub report_is : outcome.told ≡ report run.control.activations (length run.input) run.ends run.control.end
  pub status_is : outcome.own ≡ status run.ends.ends run.control.end

-- what is meant to be given where there is no run: nothing on the output, the line of the answer about the lists, and the status 8
pub record GivesLine (made : Control) (plan : Plan) (answer : Replayed) (outcome : JobOutcome) : Type 0 where
  pub output_is : outcome.output ≡ []
  pub is_line : IsReplayLine plan made.activations answer outcome.told
  pub status_is : outcome.own ≡ status_code statuses.NotReplayed

-- What is meant to be given by the answer about the lists of a trace: where they are whole, the run of the program, and else the line.
abbrev pub GivesReplay : (program : ProgramTree) → Control → (input : List ℕ) → (task_budget : ℕ) → Plan → Replayed → JobOutcome → Type 0
GivesReplay program made input task_budget plan (Whole ends) outcome = (ends ≡ ends_over program made.activations input task_budget)
    × GivesRun (record { control = made; input = input; ends = ends }) outcome
GivesReplay program made input task_budget plan (Short frame) outcome = GivesLine made plan (Short frame) outcome
GivesReplay program made input task_budget plan (Stuck list frame cell) outcome = GivesLine made plan (Stuck list frame cell) outcome
GivesReplay program made input task_budget plan (Repeat frame) outcome = GivesLine made plan (Repeat frame) outcome
GivesReplay program made input task_budget plan (Stranger list place) outcome = GivesLine made plan (Stranger list place) outcome

-- the budgets of a replay
abbrev pub replay_budgets : ReplayJob → Budgets
replay_budgets job = record { task = job.task_budget; control = job.control_budget }

-- Of `replay`: the first file's bytes are accepted as a program, and the third one's are a trace of some lists. Over a plan that stands for the
-- activations that the program creates over the second one's bytes, there is the right answer about these lists, and what is given goes
-- by that answer.
pub record IsOutcomeOfReplay (contents : List (List ℕ)) (job : ReplayJob) (outcome : JobOutcome) : Type 0 where
  pub text : List ℕ
  pub input : List ℕ
  pub told : List ℕ
  pub contents_are : contents ≡ text ∷ input ∷ told ∷ []
  pub program : ProgramTree
  pub is_program : IsAccepted text program
  pub lists : List (List ℕ)
  pub is_trace : IsTraceOf told lists
  pub made : Control
  pub plan : Plan
  pub answer : Replayed
  pub is_replay : IsReplayOf (replay_budgets job) program input lists made plan answer
  pub gives : GivesReplay program made input job.task_budget plan answer outcome

-- What a request is meant to give over the bytes of its files, in the order of reading.
abbrev pub IsOutcome : (contents : List (List ℕ)) → Request → JobOutcome → Type 0
IsOutcome contents (Run job) outcome = IsOutcomeOfRun contents job outcome
IsOutcome contents (Gen job) outcome = IsOutcomeOfGen contents job outcome
IsOutcome contents (Compile job) outcome = IsOutcomeOfCompile contents job outcome
IsOutcome contents (Exec job) outcome = IsOutcomeOfExec contents job outcome
IsOutcome contents (Explain job) outcome = IsOutcomeOfExplain contents job outcome
IsOutcome contents (Trace job) outcome = IsOutcomeOfTrace contents job outcome
IsOutcome contents (Replay job) outcome = IsOutcomeOfReplay contents job outcome
