-- What a call leaves that was asked for steps.
use Rattle.std.specs.Prelude.{◌⊎◌, ℕ, List, [], ◌∷◌, MatchResult, Result}
use Rattle.os_io.specs.declared.files.Files.{Ghosts as FilesView}
use Rattle.os_io.specs.declared.sink.Sink.{Ghosts as SinkView}
use Rattle.osrun_core_answer.specs.Made.{IsUnmadeOf}
use Rattle.osrun_core_jobs.specs.Files.{files_of}
use Rattle.osrun_core_jobs.specs.Jobs.{Job, Run}
use Rattle.osrun_core_jobs.specs.Reading.{WereRead}
use Rattle.osrun_core_jobs.specs.Status.{status_code}
use Rattle.osrun_core_jobs.specs.declared.refusal.Refusal.{Refusal}
use Rattle.osrun_core_jobs.specs.declared.status.Status.{Status}
use Rattle.osrun_core_run.specs.Refusal.{IsUsable}
use Rattle.osview_answer.specs.Answers.{IsRefusalTold, IsHandedOver}
use Rattle.osview_answer.specs.Steps.{AreStepsOf}
use Rattle.osview_answer.specs.declared.telling.RunAnswer.{RunAnswer}

-- Both files were read, and these are the lines of steps of the run of the one over the other, and its status.
pub record AreMeasured {F : Type 0} (of_files : FilesView F) (files_old files_new : F) (job : Job) (told : List ℕ) (own : ℕ) : Type 0 where
  pub text : List ℕ
  pub input : List ℕ
  pub read : WereRead IsUsable of_files files_old files_new (files_of (Run job)) (text ∷ input ∷ [])
  pub are_steps : AreStepsOf job.task_budget job.control_budget text input told own

-- both files were read and the steps are told, or one of the files is the cause, or memory ran out
abbrev pub MakesSteps : {F : Type 0} → FilesView F → F → F → Job → Result RunAnswer Refusal → Type 0
MakesSteps view old new job result = MatchResult result
    (λ told. AreMeasured view old new job told.text.items (status_code told.status)) (IsUnmadeOf view old new (files_of (Run job)))

-- the lines of steps were handed over, or it is told why there are none
abbrev pub AnswersSteps : {F O E : Type 0} → FilesView F → F → F → SinkView O → O → O → SinkView E → E → E → Job → Status → Type 0
AnswersSteps of_files files_old files_new of_out out_old out_new of_report report_old report_new job answered =
    IsHandedOver (AreMeasured of_files files_old files_new job) of_out out_old out_new of_report report_old report_new answered
    ⊎ IsRefusalTold of_files files_old files_new out_old out_new of_report report_old report_new job answered
