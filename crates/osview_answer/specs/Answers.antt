-- What a call leaves that was asked for a report.
use Rattle.std.specs.Prelude.{◌≡◌, ◌⊎◌, ℕ, List, [], ◌∷◌}
use Rattle.os_io.specs.declared.files.Files.{Ghosts as FilesView}
use Rattle.os_io.specs.declared.sink.Sink.{Ghosts as SinkView}
use Rattle.osrun_core_answer.specs.Made.{IsUnmadeOf}
use Rattle.osrun_core_jobs.specs.Files.{files_of}
use Rattle.osrun_core_jobs.specs.HandsOver.{HandsOver}
use Rattle.osrun_core_jobs.specs.Jobs.{Job, Run}
use Rattle.osrun_core_jobs.specs.Reading.{WereRead}
use Rattle.osrun_core_jobs.specs.Refusal.{refusal_status}
use Rattle.osrun_core_jobs.specs.Refuses.{Refuses}
use Rattle.osrun_core_jobs.specs.Status.{status_code}
use Rattle.osrun_core_jobs.specs.declared.refusal.Refusal.{Refusal}
use Rattle.osrun_core_jobs.specs.declared.status.Status.{Status}
use Rattle.osrun_core_run.specs.Refusal.{IsUsable}
use Rattle.osview_answer.specs.Told.{IsReportOf}

-- Both files were read, and this is the report of the run of the one over the other, and its status.
pub record IsReportMade {F : Type 0} (of_files : FilesView F) (files_old files_new : F) (job : Job) (told : List ℕ) (own : ℕ) : Type 0 where
  pub text : List ℕ
  pub input : List ℕ
  pub read : WereRead IsUsable of_files files_old files_new (files_of (Run job)) (text ∷ input ∷ [])
  pub is_report : IsReportOf job.task_budget job.control_budget text input told own

-- What was made, with a status of its own, was handed over to the output, and nothing to the other sink: the status is that one, or
-- the output did not take all.
pub record IsHandedOver {O E : Type 0} (Makes : (told : List ℕ) (own : ℕ) → Type 0) (of_out : SinkView O) (out_old out_new : O)
    (of_report : SinkView E) (report_old report_new : E) (answered : Status) : Type 0 where
  pub told : List ℕ
  pub own : Status
  pub made : Makes told (status_code own)
  pub handed : HandsOver of_out out_old out_new told of_report report_old report_new [] own answered

-- A file is the cause that there is no run, or memory ran out; the report says so, and nothing was written on the output.
pub record IsRefusalTold {F O E : Type 0} (of_files : FilesView F) (files_old files_new : F) (out_old out_new : O)
    (of_report : SinkView E) (report_old report_new : E) (job : Job) (answered : Status) : Type 0 where
  pub refusal : Refusal
  pub cause : IsUnmadeOf of_files files_old files_new (files_of (Run job)) refusal
  pub status : answered ≡ refusal_status refusal
  pub output_kept : out_new ≡ out_old
  pub report : Refuses of_report report_old report_new refusal

-- the report of the run was handed over, or it is told why there is none
abbrev pub AnswersReport : {F O E : Type 0} → FilesView F → F → F → SinkView O → O → O → SinkView E → E → E → Job → Status → Type 0
AnswersReport of_files files_old files_new of_out out_old out_new of_report report_old report_new job answered =
    IsHandedOver (IsReportMade of_files files_old files_new job) of_out out_old out_new of_report report_old report_new answered
    ⊎ IsRefusalTold of_files files_old files_new out_old out_new of_report report_old report_new job answered
