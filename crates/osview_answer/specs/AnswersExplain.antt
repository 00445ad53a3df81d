-- What a call leaves that was asked to explain an activation.
use Rattle.std.specs.Prelude.{◌⊎◌, ℕ, List, [], ◌∷◌, MatchResult, Result}
use Rattle.os_io.specs.declared.files.Files.{Ghosts as FilesView}
use Rattle.os_io.specs.declared.sink.Sink.{Ghosts as SinkView}
use Rattle.osrun_core_answer.specs.Made.{IsUnmadeOf}
use Rattle.osrun_core_jobs.specs.Files.{files_of}
use Rattle.osrun_core_jobs.specs.Jobs.{Job, Run}
use Rattle.osrun_core_jobs.specs.Reading.{WereRead}
use Rattle.osrun_core_jobs.specs.Status.{status_code}
use Rattle.osrun_core_jobs.specs.declared.refusal.Refusal.{Refusal}
use Rattle.osrun_core_jobs.specs.declared.status.Status.{Status}
use Rattle.osrun_core_run.specs.Refusal.{IsUsable}
use Rattle.osview_answer.specs.Answers.{IsHandedOver, IsRefusalTold}
use Rattle.osview_answer.specs.Explanation.{IsExplanationOf}
use Rattle.osview_answer.specs.declared.telling.RunAnswer.{RunAnswer}

-- Both files were read, and this explains the activation of the run of the one over the other, with its status.
pub record IsExplained {F : Type 0} (of_files : FilesView F) (files_old files_new : F) (job : Job) (a : ℕ) (told : List ℕ) (own : ℕ) : Type 0 where
  pub text : List ℕ
  pub input : List ℕ
  pub read : WereRead IsUsable of_files files_old files_new (files_of (Run job)) (text ∷ input ∷ [])
  pub is_explanation : IsExplanationOf job.task_budget job.control_budget text input a told own

-- both files were read and the activation is explained, or one of the files is the cause, or memory ran out
abbrev pub MakesExplanation : {F : Type 0} → FilesView F → F → F → Job → ℕ → Result RunAnswer Refusal → Type 0
MakesExplanation view old new job a result = MatchResult result
    (λ told. IsExplained view old new job a told.text.items (status_code told.status)) (IsUnmadeOf view old new (files_of (Run job)))

-- the explanation was handed over, or it is told why there is none
abbrev pub AnswersExplain : {F O E : Type 0} → FilesView F → F → F → SinkView O → O → O → SinkView E → E → E → Job → ℕ → Status → Type 0
AnswersExplain of_files files_old files_new of_out out_old out_new of_report report_old report_new job a answered =
    IsHandedOver (IsExplained of_files files_old files_new job a) of_out out_old out_new of_report report_old report_new answered
    ⊎ IsRefusalTold of_files files_old files_new out_old out_new of_report report_old report_new job answered
