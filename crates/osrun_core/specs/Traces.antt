-- What `trace` and `replay` come to, by what the files hold where they tell it.
use Rattle.std.specs.Prelude.{◌≡◌, ℕ, List, Option, length}
use Rattle.flow_core_laws.specs.declared.control.Control.{Control}
use Rattle.flow_core_laws.specs.declared.plan.Plan.{Plan}
use Rattle.front_end.specs.Texts.{IsAccepted}
use Rattle.os_ast.specs.Trees.{ProgramTree}
use Rattle.osrun_core_answer.specs.JobOutcome.{replay_budgets}
use Rattle.osrun_core_jobs.specs.Files.{AreBytesOf}
use Rattle.osrun_core_jobs.specs.Jobs.{Job, ReplayJob}
use Rattle.osrun_core_jobs.specs.declared.subject.Subject.TheVariants.{Input, Program, Trace}
use Rattle.osrun_core_run.specs.Replay.{IsReplayOf}
use Rattle.osrun_core_run.specs.ReplayLine.{IsReplayLine}
use Rattle.osrun_core_run.specs.Run.{IsRunOfJob, ProgramRun}
use Rattle.task_workers.specs.Logged.{HoldTheEnded}
use Rattle.trace_replay_laws.specs.declared.replayed.Replayed.{Replayed}
use Rattle.trace_replay_laws.specs.declared.replayed.Replayed.TheVariants.{Whole}
use Rattle.trace_replay_text.specs.Trace.{IsTraceOf, trace}

-- The run is that of the job's program over its input, and the text is the trace of lists, one for each worker, in which each
-- activation with an end stands once, and nothing else. Of the file opened last `given` bytes were given.
pub record IsTraceOfJob (holds : List ℕ → Option (List ℕ)) (job : Job) (given : ℕ) (run : ProgramRun) (text : List ℕ) : Type 0 where
  pub is_run : IsRunOfJob holds job run
  pub given_is : given ≡ length run.input
  pub lists : List (List ℕ)
  pub one_each : length lists ≡ job.workers
  pub hold_the_ended : HoldTheEnded run.ends.ends lists
  pub text_is : text ≡ trace lists

-- the run that is made by the lists of a trace; it is one worker's
abbrev pub replayed_run : ReplayJob → Job
replayed_run job = record {
  program = job.program;
  input = job.input;
  workers = 1;
  task_budget = job.task_budget;
  control_budget = job.control_budget;
}

-- The lists are those that the job's trace spells. Of the file opened last `given` bytes were given.
pub record AreListsOfJob (holds : List ℕ → Option (List ℕ)) (job : ReplayJob) (given : ℕ) (lists : List (List ℕ)) : Type 0 where
  pub told : List ℕ
  pub told_read : AreBytesOf (holds job.trace) Trace told
  pub given_is : given ≡ length told
  pub is_trace : IsTraceOf told lists

-- The run is that of the job's program over its input, and the lists of the job's trace are whole: over a plan that stands for the
-- run's activations they have run in a lawful order, and nothing more can run.
pub record IsRunByTrace (holds : List ℕ → Option (List ℕ)) (job : ReplayJob) (given : ℕ) (run : ProgramRun) : Type 0 where
  pub is_run : IsRunOfJob holds (replayed_run job) run
  pub lists : List (List ℕ)
  pub are_lists : AreListsOfJob holds job given lists
  pub plan : Plan
  pub is_whole : IsReplayOf (replay_budgets job) is_run.program run.input lists run.control plan (Whole run.ends)

-- The line is that of the right answer about the lists of the job's trace, over a plan that stands for the activations that the job's
-- program creates over its input. An answer that the lists are whole has no line.
pub record IsLineOfReplay (holds : List ℕ → Option (List ℕ)) (job : ReplayJob) (given : ℕ) (line : List ℕ) : Type 0 where
  pub text : List ℕ
  pub text_read : AreBytesOf (holds job.program) Program text
  pub input : List ℕ
  pub input_read : AreBytesOf (holds job.input) Input input
  pub program : ProgramTree
  pub is_program : IsAccepted text program
  pub lists : List (List ℕ)
  pub are_lists : AreListsOfJob holds job given lists
  pub made : Control
  pub plan : Plan
  pub answer : Replayed
  pub is_replay : IsReplayOf (replay_budgets job) program input lists made plan answer
  pub is_line : IsReplayLine plan made.activations answer line
