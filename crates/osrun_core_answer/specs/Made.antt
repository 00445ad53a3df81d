-- What calls on the way of a job answer.
use Rattle.std.specs.Prelude.{◌≡◌, ◌⊎◌, ◌<◌, ◌^◌, ℕ, All, List, [], ◌∷◌, MatchResult, Option, Result, length, string_bytes}
use Rattle.flow_core_laws.specs.declared.task_end.TaskEnd.{TaskEnd}
use Rattle.front_end.specs.Texts.{IsAccepted}
use Rattle.os_ast.specs.Trees.{ProgramTree}
use Rattle.os_ast.specs.Views.{program_tree}
use Rattle.os_io.specs.declared.files.Files.{Ghosts as FilesView}
use Rattle.os_io.specs.declared.sink.Sink.{Ghosts as SinkView}
use Rattle.osrun_core_answer.specs.JobOutcome.{IsOutcome, IsOutcomeOfExplain, JobOutcome, replay_budgets}
use Rattle.osrun_core_answer.specs.declared.make_explain.Explanation.{Explanation}
use Rattle.osrun_core_answer.specs.declared.make_trace.TracedRun.{TracedRun}
use Rattle.os_code.specs.Codes.{parts_of}
use Rattle.os_code.specs.declared.code.Code.{Code}
use Rattle.os_code.specs.declared.parts.Parts.{Parts}
use Rattle.os_object.specs.Object.{Spells}
use Rattle.osrun_core_jobs.specs.Files.{JobFile, files_of}
use Rattle.osrun_core_jobs.specs.HandsOver.{HandsOver}
use Rattle.osrun_core_jobs.specs.Jobs.{Compile, CompileJob, Exec, ExecJob, Explain, ExplainJob, Gen, GenJob, Job}
use Rattle.osrun_core_jobs.specs.Jobs.{Replay as ReplayRequest, ReplayJob, Run, Trace}
use Rattle.osrun_core_jobs.specs.Reading.{IsCauseOf, IsFailed, Opened, ReadsInOrder, WasRead, WereRead}
use Rattle.osrun_core_jobs.specs.Status.{status_code}
use Rattle.osrun_core_jobs.specs.declared.refusal.Refusal.{Refusal}
use Rattle.osrun_core_jobs.specs.declared.refusal.Refusal.TheVariants as refusals
use Rattle.osrun_core_jobs.specs.declared.status.Status.{Status}
use Rattle.osrun_core_jobs.specs.declared.status.Status.TheVariants as statuses
use Rattle.osrun_core_jobs.specs.declared.subject.Subject.TheVariants as subjects
use Rattle.osrun_core_run.specs.Code.{IsCodeOf, IsObjectOf}
use Rattle.osrun_core_run.specs.Refusal.{IsUnusable, IsUsable}
use Rattle.osrun_core_run.specs.Replay.{IsReplay}
use Rattle.osrun_core_run.specs.RunOf.{IsRunOf, IsRunOfCode}
use Rattle.osrun_core_run.specs.declared.made.MadeRun.{MadeRun}
use Rattle.osrun_core_run.specs.declared.replaying.Replay.{Replay}
use Rattle.task_workers.specs.Logged.{HoldTheEnded}
use Rattle.trace_replay_text.specs.Trace.{IsTraceOf, trace}
use Rattle.window_check.specs.declared.checked.Checked.{Checked}

-- a program was read, or it was opened and is the cause
abbrev pub ReadsProgram : {F : Type 0} → FilesView F → F → F → List ℕ → Result Checked Refusal → Type 0
ReadsProgram view old new name result = MatchResult result
    (λ checked. (text : List ℕ) × WasRead IsUsable view old new (record { subject = subjects.Program; name = name }) text
    × IsAccepted text (program_tree checked.program))
    (λ refusal. Opened view old new (record { subject = subjects.Program; name = name })
    × IsFailed IsUnusable view old new (record { subject = subjects.Program; name = name }) refusal)

-- an object was read, or it was opened and is the cause
abbrev pub ReadsObject : {F : Type 0} → FilesView F → F → F → List ℕ → Result Code Refusal → Type 0
ReadsObject view old new name result = MatchResult result
    (λ code. (object : List ℕ) × WasRead IsUsable view old new (record { subject = subjects.Object; name = name }) object
    × IsObjectOf object (parts_of code))
    (λ refusal. Opened view old new (record { subject = subjects.Object; name = name })
    × IsFailed IsUnusable view old new (record { subject = subjects.Object; name = name }) refusal)

-- the lists of a trace were read, or it was opened and is the cause
abbrev pub ReadsLists : {F : Type 0} → FilesView F → F → F → List ℕ → Result (List (List ℕ)) Refusal → Type 0
ReadsLists view old new name result = MatchResult result
    (λ lists. (told : List ℕ) × WasRead IsUsable view old new (record { subject = subjects.Trace; name = name }) told
    × IsTraceOf told lists × All (λ list. length list < 2 ^ 32) lists)
    (λ refusal. Opened view old new (record { subject = subjects.Trace; name = name })
    × IsFailed IsUnusable view old new (record { subject = subjects.Trace; name = name }) refusal)

-- the files were read, and the run is that of the one over the other
pub record IsMadeOf {F : Type 0} (view : FilesView F) (old new : F) (job : Job) (run : MadeRun) : Type 0 where
  pub text : List ℕ
  pub input : List ℕ
  pub read : WereRead IsUsable view old new (files_of (Run job)) (text ∷ input ∷ [])
  pub program : ProgramTree
  pub is_program : IsAccepted text program
  pub is_run : IsRunOf job.task_budget job.control_budget program input run.output.items run.layout run.ends run.control

-- the files were read, and the run is that of the code of the one over the other
pub record IsExecOf {F : Type 0} (view : FilesView F) (old new : F) (job : ExecJob) (run : MadeRun) : Type 0 where
  pub object : List ℕ
  pub input : List ℕ
  pub read : WereRead IsUsable view old new (files_of (Exec job)) (object ∷ input ∷ [])
  pub code : Parts
  pub is_object : IsObjectOf object code
  pub is_run : IsRunOfCode job.task_budget job.control_budget code input run.output.items run.layout run.ends run.control

-- the file was read, and the bytes are the object of a code of its program
pub record IsCompiledOf {F : Type 0} (view : FilesView F) (old new : F) (job : CompileJob) (object : List ℕ) : Type 0 where
  pub text : List ℕ
  pub read : WereRead IsUsable view old new (files_of (Compile job)) (text ∷ [])
  pub program : ProgramTree
  pub is_program : IsAccepted text program
  pub code : Parts
  pub is_code : IsCodeOf code program
  pub is_object : Spells object code

-- nothing is made: one of the files is the cause, or memory ran out
abbrev pub IsUnmadeOf : {F : Type 0} → FilesView F → F → F → List JobFile → Refusal → Type 0
IsUnmadeOf view old new files refusal =
    IsCauseOf IsUsable IsUnusable view old new files refusal
    ⊎ ((refusal ≡ refusals.Memory) × ReadsInOrder IsUsable view old new files)

abbrev pub MakesRun : {F : Type 0} → FilesView F → F → F → Job → Result MadeRun Refusal → Type 0
MakesRun view old new job result = MatchResult result (IsMadeOf view old new job) (IsUnmadeOf view old new (files_of (Run job)))

abbrev pub MakesExec : {F : Type 0} → FilesView F → F → F → ExecJob → Result MadeRun Refusal → Type 0
MakesExec view old new job result = MatchResult result (IsExecOf view old new job) (IsUnmadeOf view old new (files_of (Exec job)))

-- what `explain` is meant to give where it tells this: the text on the output, and the status
abbrev pub told_outcome : Explanation → JobOutcome
told_outcome explanation = record { output = string_bytes explanation.text; told = []; own = status_code explanation.status }

-- the files were read, and the explanation is what the job is meant to give over their bytes
abbrev pub IsExplainedOf : {F : Type 0} → FilesView F → F → F → ExplainJob → Explanation → Type 0
IsExplainedOf view old new job explanation =
    (contents : List (List ℕ)) × WereRead IsUsable view old new (files_of (Explain job)) contents × IsOutcomeOfExplain contents job (told_outcome explanation)

abbrev pub MakesExplanation : {F : Type 0} → FilesView F → F → F → ExplainJob → Result Explanation Refusal → Type 0
MakesExplanation view old new job result = MatchResult result (IsExplainedOf view old new job) (IsUnmadeOf view old new (files_of (Explain job)))

-- the text is the trace of lists, one for each worker, in which the activations with an end stand once
pub record TracesEnded (workers : ℕ) (ends : List (Option TaskEnd)) (text : List ℕ) : Type 0 where
  pub lists : List (List ℕ)
  pub one_each : length lists ≡ workers
  pub hold_the_ended : HoldTheEnded ends lists
  pub text_is : text ≡ trace lists

-- the files were read, the run is that of the one over the other, and the text is its trace
pub record IsTracedOf {F : Type 0} (view : FilesView F) (old new : F) (job : Job) (traced : TracedRun) : Type 0 where
  pub made : IsMadeOf view old new job traced.run
  pub traces : TracesEnded job.workers traced.run.ends.ends traced.text.items

abbrev pub MakesTrace : {F : Type 0} → FilesView F → F → F → Job → Result TracedRun Refusal → Type 0
MakesTrace view old new job result = MatchResult result (IsTracedOf view old new job) (IsUnmadeOf view old new (files_of (Trace job)))

-- the three files were read, and this came of the lists of the third one where the program of the first one was run by them over
-- the second one
pub record IsReplayedOf {F : Type 0} (view : FilesView F) (old new : F) (job : ReplayJob) (replay : Replay) : Type 0 where
  pub text : List ℕ
  pub input : List ℕ
  pub told : List ℕ
  pub read : WereRead IsUsable view old new (files_of (ReplayRequest job)) (text ∷ input ∷ told ∷ [])
  pub program : ProgramTree
  pub is_program : IsAccepted text program
  pub lists : List (List ℕ)
  pub is_trace : IsTraceOf told lists
  pub comes_to : IsReplay (replay_budgets job) program input lists replay

abbrev pub MakesReplay : {F : Type 0} → FilesView F → F → F → ReplayJob → Result Replay Refusal → Type 0
MakesReplay view old new job result =
    MatchResult result (IsReplayedOf view old new job) (IsUnmadeOf view old new (files_of (ReplayRequest job)))

-- the four lines were handed over, or memory ran out and nothing was written
abbrev pub AnswersGen : {O E : Type 0} → SinkView O → O → O → SinkView E → E → E → GenJob → Status → Type 0
AnswersGen of_out out_old out_new of_report report_old report_new job answered =
    ((outcome : JobOutcome) × IsOutcome [] (Gen job) outcome
    × HandsOver of_out out_old out_new outcome.output of_report report_old report_new outcome.told statuses.AllDone answered)
    ⊎ ((answered ≡ statuses.NoMemory) × (out_new ≡ out_old) × (report_new ≡ report_old))
