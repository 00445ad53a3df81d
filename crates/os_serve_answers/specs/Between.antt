-- Where the server stands between two jobs.
use Rattle.std.specs.Prelude.{◌≡◌, ℕ, List, ◌++◌, IfSome, Option, length}
use Rattle.os_io.specs.declared.files.Files.{Ghosts as FilesView}
use Rattle.os_io.specs.declared.sink.Sink.{Ghosts as SinkView}
use Rattle.osrun_core_jobs.specs.Telling.{Took}
use Rattle.os_serve_answers.specs.Replies.{AreReplies, JobRun}
use Rattle.os_serve_jobs.specs.Answers.{Reply, answers}
use Rattle.os_serve_jobs.specs.Lines.{AreFirstJobs}
use Rattle.os_serve_jobs.specs.Reading.{HasRead}
use Rattle.os_serve_jobs.specs.declared.reading.Reading.{Reading}

-- The first jobs were answered, and further ones wait behind them. A job waits until it is answered, also while it runs. Those that were
-- answered and those that wait, put together, are the first jobs of the file.
pub record IsServing {J F O : Type 0} (of_jobs : FilesView J) (told : Option (List ℕ)) (faults : ℕ) (jobs : J) (reading : Reading)
    (waiting : List (List ℕ)) (run : JobRun F) (files_old files : F) (of_out : SinkView O) (out_old out : O) (number : ℕ) : Type 0 where
  pub lines : List (List ℕ)
  pub replies : List Reply
  pub has_read : HasRead of_jobs told faults jobs reading (lines ++ waiting)
  pub first_jobs : IfSome told (λ held. AreFirstJobs held (lines ++ waiting))
  pub are_replies : AreReplies run files_old files lines replies
  pub output : Took of_out out_old out (answers replies)
  pub counted : number ≡ length lines
