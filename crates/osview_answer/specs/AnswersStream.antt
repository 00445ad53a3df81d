-- What a call leaves that was asked for a stream.
use Rattle.std.specs.Prelude.{◌≡◌, ◌⊎◌, ℕ, List, [], ◌∷◌, ◌++◌, codes}
use Rattle.os_io.specs.Lines.{ended_line}
use Rattle.os_io.specs.declared.files.Files.{Ghosts as FilesView}
use Rattle.os_io.specs.declared.sink.Sink.{Ghosts as SinkView}
use Rattle.osrun_core_jobs.specs.Files.{files_of}
use Rattle.osrun_core_jobs.specs.Jobs.{Job, Run}
use Rattle.osrun_core_jobs.specs.Reading.{WereRead}
use Rattle.osrun_core_jobs.specs.Telling.{Tells}
use Rattle.osrun_core_jobs.specs.declared.status.Status.{Status}
use Rattle.osrun_core_jobs.specs.declared.status.Status.TheVariants.{BadWords}
use Rattle.osrun_core_run.specs.Refusal.{IsUsable}
use Rattle.osview_answer.specs.Answers.{IsRefusalTold, IsHandedOver}
use Rattle.osview_answer.specs.Elements.{AreElementsOf, NamesNone}

-- what is asked: the stream with this name, from a position on, and how many positions at most
pub record Asked : Type 0 where
  pub name : List ℕ
  pub first : ℕ
  pub count : ℕ

-- the line that tells that there is no stream with this name
abbrev pub unnamed_line : List ℕ → List ℕ
unnamed_line word = ended_line (codes "no stream " ++ word)

-- Both files were read, and these are the lines of the stream in the run of the one over the other, and its status.
pub record AreMade {F : Type 0} (of_files : FilesView F) (files_old files_new : F) (job : Job) (asked : Asked) (told : List ℕ) (own : ℕ) : Type 0 where
  pub text : List ℕ
  pub input : List ℕ
  pub read : WereRead IsUsable of_files files_old files_new (files_of (Run job)) (text ∷ input ∷ [])
  pub are_elements : AreElementsOf job.task_budget job.control_budget text input asked.name asked.first asked.count told own

-- Both files were read, and the program has no stream with this name.
pub record IsUnnamed {F : Type 0} (of_files : FilesView F) (files_old files_new : F) (job : Job) (asked : Asked) : Type 0 where
  pub text : List ℕ
  pub input : List ℕ
  pub read : WereRead IsUsable of_files files_old files_new (files_of (Run job)) (text ∷ input ∷ [])
  pub none : NamesNone text asked.name

-- The report says that no stream has the name that was asked for, the status is 2, and nothing was written on the output.
pub record IsToldSo {F O E : Type 0} (of_files : FilesView F) (files_old files_new : F) (out_old out_new : O)
    (of_report : SinkView E) (report_old report_new : E) (job : Job) (asked : Asked) (answered : Status) : Type 0 where
  pub unnamed : IsUnnamed of_files files_old files_new job asked
  pub status : answered ≡ BadWords
  pub output_kept : out_new ≡ out_old
  pub report : Tells of_report report_old report_new (unnamed_line asked.name)

-- the lines of the stream were handed over, or it is told that no stream has the name, or why there is no run
abbrev pub AnswersStream : {F O E : Type 0} → FilesView F → F → F → SinkView O → O → O → SinkView E → E → E → Job → Asked → Status → Type 0
AnswersStream of_files files_old files_new of_out out_old out_new of_report report_old report_new job asked answered =
    IsHandedOver (AreMade of_files files_old files_new job asked) of_out out_old out_new of_report report_old report_new answered
    ⊎ (IsToldSo of_files files_old files_new out_old out_new of_report report_old report_new job asked answered
    ⊎ IsRefusalTold of_files files_old files_new out_old out_new of_report report_old report_new job answered)
