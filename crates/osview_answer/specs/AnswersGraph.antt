-- What a call leaves that was asked for a graph.
use Rattle.std.specs.Prelude.{◌⊎◌, ℕ, List, [], ◌∷◌}
use Rattle.os_io.specs.declared.files.Files.{Ghosts as FilesView}
use Rattle.os_io.specs.declared.sink.Sink.{Ghosts as SinkView}
use Rattle.osrun_core_jobs.specs.Files.{files_of}
use Rattle.osrun_core_jobs.specs.Jobs.{Job, Run}
use Rattle.osrun_core_jobs.specs.Reading.{WereRead}
use Rattle.osrun_core_jobs.specs.declared.status.Status.{Status}
use Rattle.osrun_core_run.specs.Refusal.{IsUsable}
use Rattle.osview_answer.specs.Answers.{IsRefusalTold, IsHandedOver}
use Rattle.osview_answer.specs.Drawn.{IsGraphOf}
use Rattle.osview_graph.specs.declared.drawn.GraphChoice.{GraphChoice}

-- Both files were read, and this is the graph of the run of the one over the other, and its status.
pub record IsGraphMade {F : Type 0} (of_files : FilesView F) (files_old files_new : F) (job : Job) (view : GraphChoice) (told : List ℕ) (own : ℕ) : Type 0 where
  pub text : List ℕ
  pub input : List ℕ
  pub read : WereRead IsUsable of_files files_old files_new (files_of (Run job)) (text ∷ input ∷ [])
  pub is_graph : IsGraphOf job.task_budget job.control_budget text input view told own

-- the graph of the run was handed over, or it is told why there is none
abbrev pub AnswersGraph : {F O E : Type 0} → FilesView F → F → F → SinkView O → O → O → SinkView E → E → E → Job → GraphChoice → Status → Type 0
AnswersGraph of_files files_old files_new of_out out_old out_new of_report report_old report_new job view answered =
    IsHandedOver (IsGraphMade of_files files_old files_new job view) of_out out_old out_new of_report report_old report_new answered
    ⊎ IsRefusalTold of_files files_old files_new out_old out_new of_report report_old report_new job answered
