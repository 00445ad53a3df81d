-- What a call of the server comes to, for laws.
use Rattle.std.specs.Prelude.{◌≡◌, ◌≢◌, ◌⊎◌, ℕ, List, IfSome}
use Rattle.os_io.specs.declared.files.Files.{Ghosts as FilesView}
use Rattle.os_io.specs.declared.sink.Sink.{Ghosts as SinkView}
use Rattle.osrun_core_jobs.specs.Status.{status_code}
use Rattle.osrun_core_jobs.specs.Telling.{IsCutShort, Took}
use Rattle.osrun_core_jobs.specs.declared.status.Status.TheVariants as statuses
use Rattle.os_serve_answers.specs.Replies.{AreReplies, JobRun}
use Rattle.os_serve_jobs.specs.Answers.{Reply, answers}
use Rattle.os_serve_jobs.specs.Lines.{AreFirstJobs, AreJobs}

-- Some lines were answered, each with its reply, and this is said of them.
abbrev pub HaveReplies : {F : Type 0} → JobRun F → (files_old files_new : F) → (List (List ℕ) → List Reply → Type 0) → Type 0
HaveReplies run files_old files_new said =
    (lines : List (List ℕ)) × (replies : List Reply) × AreReplies run files_old files_new lines replies × said lines replies

-- The lines are the first jobs of the file, where it tells what it holds, and with the statuses AllDone (0) and TooLong (4) all of them.
-- The output took the answers to them, in their order, each once and none else; with WriteFault (6) it took a front of that, and not all.
pub record AnswersJobs {J O : Type 0} (of_jobs : FilesView J) (jobs_old : J) (of_out : SinkView O) (out_old out_new : O) (name : List ℕ)
    (status : ℕ) (lines : List (List ℕ)) (replies : List Reply) : Type 0 where
  pub first : IfSome (of_jobs.holds jobs_old name) (λ held. AreFirstJobs held lines)
  pub all : (status ≡ status_code statuses.AllDone) ⊎ (status ≡ status_code statuses.TooLong)
      → IfSome (of_jobs.holds jobs_old name) (λ held. AreJobs held lines)
  pub took : status ≢ status_code statuses.WriteFault → Took of_out out_old out_new (answers replies)
  pub cut_short : status ≡ status_code statuses.WriteFault → IsCutShort of_out out_old out_new (answers replies)
