-- How far the jobs were answered when the server ends, for private functions.
use Rattle.std.specs.Prelude.{◌≡◌, ℕ, List, ◌++◌, ◌+◌, MatchResult, Option, Result, codes}
use Rattle.os_io.specs.Lines.{ended_line}
use Rattle.os_io.specs.declared.files.Files.{Ghosts as FilesView}
use Rattle.os_io.specs.declared.sink.Sink.{Ghosts as SinkView}
use Rattle.osrun_core_jobs.specs.Telling.{IsCutShort, Tells, Took}
use Rattle.osrun_core_jobs.specs.declared.status.Status.{Status}
use Rattle.osrun_core_jobs.specs.declared.status.Status.TheVariants as statuses
use Rattle.os_serve_answers.specs.Between.{IsServing}
use Rattle.os_serve_answers.specs.Replies.{AreReplies, JobRun}
use Rattle.os_serve_answers.specs.declared.serve_error.ServeError.{ServeError}
use Rattle.os_serve_answers.specs.declared.serve_error.ServeError.TheVariants as stops
use Rattle.os_serve_jobs.specs.Answers.{Reply, answers}
use Rattle.os_serve_jobs.specs.Reading.{HasRead, IsDone, IsReading}
use Rattle.os_serve_jobs.specs.declared.reading.Reading.{Reading}
use Rattle.os_serve_jobs.specs.declared.input_state.InputState.{InputState}
use Rattle.os_serve_jobs.specs.declared.input_state.InputState.TheVariants.{AtEnd, Failed, Open, TooLong}

-- The first jobs were answered, but for a part of the last answer.
pub record IsOutOfOutput {J F O : Type 0} (of_jobs : FilesView J) (told : Option (List ℕ)) (faults : ℕ) (jobs : J) (reading : Reading)
    (run : JobRun F) (files_old files : F) (of_out : SinkView O) (out_old out : O) : Type 0 where
  pub lines : List (List ℕ)
  pub replies : List Reply
  pub waiting : List (List ℕ)
  pub has_read : HasRead of_jobs told faults jobs reading (lines ++ waiting)
  pub are_replies : AreReplies run files_old files lines replies
  pub output : IsCutShort of_out out_old out (answers replies)

-- The first jobs were answered, and then memory ran out.
pub record IsOutOfMemory {J F O : Type 0} (of_jobs : FilesView J) (told : Option (List ℕ)) (faults : ℕ) (jobs : J) (reading : Reading)
    (run : JobRun F) (files_old files : F) (of_out : SinkView O) (out_old out : O) : Type 0 where
  pub lines : List (List ℕ)
  pub replies : List Reply
  pub waiting : List (List ℕ)
  pub has_read : HasRead of_jobs told faults jobs reading (lines ++ waiting)
  pub are_replies : AreReplies run files_old files lines replies
  pub output : Took of_out out_old out (answers replies)

-- why the server stopped
abbrev pub StopsServing : {J F O : Type 0} → FilesView J → Option (List ℕ) → ℕ → J → Reading → JobRun F → (files_old files : F) → SinkView O
    → (out_old out : O) → ServeError → Type 0
StopsServing of_jobs told faults jobs reading run files_old files of_out out_old out stops.Memory =
    IsOutOfMemory of_jobs told faults jobs reading run files_old files of_out out_old out
StopsServing of_jobs told faults jobs reading run files_old files of_out out_old out stops.Write =
    IsOutOfOutput of_jobs told faults jobs reading run files_old files of_out out_old out

-- the status with which it then ends
abbrev pub stop_status : ServeError → Status
stop_status stops.Memory = statuses.NoMemory
stop_status stops.Write = statuses.WriteFault

-- All jobs were answered.
pub record IsAnswered {J F O : Type 0} (of_jobs : FilesView J) (told : Option (List ℕ)) (faults : ℕ) (jobs : J) (reading : Reading)
    (run : JobRun F) (files_old files : F) (of_out : SinkView O) (out_old out : O) : Type 0 where
  pub lines : List (List ℕ)
  pub replies : List Reply
  pub has_read : HasRead of_jobs told faults jobs reading lines
  pub are_replies : AreReplies run files_old files lines replies
  pub output : Took of_out out_old out (answers replies)

-- Where the first jobs were answered and further ones wait, one more was answered; or the server stopped.
abbrev pub AnswersNext : {J F O : Type 0} → FilesView J → (jobs_old jobs : J) → (reading_old reading : Reading)
    → (waiting_old waiting : List (List ℕ)) → JobRun F → (files_old files : F) → SinkView O → (out_old out : O) → ℕ
    → Result (Unit {0}) ServeError → Type 0
AnswersNext {J} {F} {O} of_jobs jobs_old jobs reading_old reading waiting_old waiting run files_old files of_out out_old out number result =
    (told : Option (List ℕ)) (faults : ℕ) (files_first : F) (out_first : O)
    → IsServing of_jobs told faults jobs_old reading_old waiting_old run files_first files_old of_out out_first out_old number
    → MatchResult result
    (λ _. IsServing of_jobs told faults jobs reading waiting run files_first files of_out out_first out (number + 1))
    (StopsServing of_jobs told faults jobs reading run files_first files of_out out_first out)

-- all jobs of a file were answered, to its end, or the server stopped
abbrev pub AnswersAll : {J F O : Type 0} → FilesView J → Option (List ℕ) → ℕ → J → Reading → JobRun F → (files_old files : F)
    → SinkView O → (out_old out : O) → Result (Unit {0}) ServeError → Type 0
AnswersAll of_jobs told faults jobs reading run files_old files of_out out_old out result = MatchResult result
    (λ _. IsAnswered of_jobs told faults jobs reading run files_old files of_out out_old out × IsDone reading × IsReading reading)
    (StopsServing of_jobs told faults jobs reading run files_old files of_out out_old out)

-- the status by how the file of jobs ended, and what is told of it
abbrev pub EndsBy : {E : Type 0} → SinkView E → (report_old report : E) → InputState → Status → Type 0
EndsBy of_report report_old report Open status = ⊥
EndsBy of_report report_old report AtEnd status = (status ≡ statuses.AllDone) × (report ≡ report_old)
EndsBy of_report report_old report TooLong status = (status ≡ statuses.TooLong) × Tells of_report report_old report (ended_line (codes "too long jobs"))
EndsBy of_report report_old report Failed status = (status ≡ statuses.ReadFault) × Tells of_report report_old report (ended_line (codes "read fault jobs"))
