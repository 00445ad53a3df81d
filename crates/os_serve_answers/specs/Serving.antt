-- What a call of the server leaves.
use Rattle.std.specs.Prelude.{◌≡◌, ◌≤◌, ◌+◌, ◌⊎◌, ℕ, List, [], ◌++◌, codes, length, take}
use Rattle.std.specs.Io.KnownBytes.{IsAtEnd, prepend_known}
use Rattle.os_io.specs.Lines.{ended_line}
use Rattle.os_io.specs.Counts.{HasRisen}
use Rattle.os_io.specs.declared.files.Files.{Ghosts as FilesView}
use Rattle.os_io.specs.declared.sink.Sink.{Ghosts as SinkView}
use Rattle.osrun_core_jobs.specs.Refusal.{usage_line}
use Rattle.osrun_core_jobs.specs.Status.{status_code}
use Rattle.osrun_core_jobs.specs.Telling.{IsCutShort, Tells, Took}
use Rattle.osrun_core_jobs.specs.declared.status.Status.{Status}
use Rattle.osrun_core_jobs.specs.declared.status.Status.TheVariants as statuses
use Rattle.os_serve_answers.specs.Replies.{AreReplies, JobRun}
use Rattle.os_serve_jobs.specs.Answers.{Reply, answers}
use Rattle.os_serve_jobs.specs.Lines.{AreEnded, AreLines, StartsWith, jobs_limit}

-- The file of jobs has given as many bytes as these, and they are the front of what it holds, where that is told; or it could not
-- be opened.
pub record WasGiven {J : Type 0} (of_jobs : FilesView J) (jobs_old jobs_new : J) (name read : List ℕ) : Type 0 where
  pub given : of_jobs.given jobs_new ≡ length read
  pub front : (of_jobs.holds jobs_old name ≡ prepend_known read (of_jobs.rest jobs_new))
      ⊎ ((read ≡ []) × HasRisen (of_jobs.faults jobs_old) (of_jobs.faults jobs_new))

-- 0: the file was read to its end, within its limit, and all its jobs were answered.
pub record IsServed {J O E : Type 0} (of_jobs : FilesView J) (jobs_old jobs_new : J) (of_out : SinkView O) (out_old out_new : O)
    (report_old report_new : E) (name : List ℕ) (lines : List (List ℕ)) (replies : List Reply) : Type 0 where
  pub read : List ℕ
  pub given : of_jobs.given jobs_new ≡ length read
  pub front : of_jobs.holds jobs_old name ≡ prepend_known read (of_jobs.rest jobs_new)
  pub at_end : IsAtEnd (of_jobs.rest jobs_new)
  pub fits : length read ≤ jobs_limit
  pub no_fault : of_jobs.faults jobs_new ≡ of_jobs.faults jobs_old
  pub all : AreLines read lines
  pub output : Took of_out out_old out_new (answers replies)
  pub report_kept : report_new ≡ report_old

-- 4: one byte more than the limit was given, and the jobs that ended within the limit were answered.
pub record IsCutOff {J O E : Type 0} (of_jobs : FilesView J) (jobs_old jobs_new : J) (of_out : SinkView O) (out_old out_new : O)
    (of_report : SinkView E) (report_old report_new : E) (name : List ℕ) (lines : List (List ℕ)) (replies : List Reply) : Type 0 where
  pub read : List ℕ
  pub given : of_jobs.given jobs_new ≡ length read
  pub front : of_jobs.holds jobs_old name ≡ prepend_known read (of_jobs.rest jobs_new)
  pub one_past : length read ≡ jobs_limit + 1
  pub no_fault : of_jobs.faults jobs_new ≡ of_jobs.faults jobs_old
  pub all : AreEnded (take jobs_limit read) lines
  pub output : Took of_out out_old out_new (answers replies)
  pub report : Tells of_report report_old report_new (ended_line (codes "too long jobs"))

-- 5: the file of jobs counted a fault, and the jobs that ended before it were answered.
pub record IsBroken {J O E : Type 0} (of_jobs : FilesView J) (jobs_old jobs_new : J) (of_out : SinkView O) (out_old out_new : O)
    (of_report : SinkView E) (report_old report_new : E) (name : List ℕ) (lines : List (List ℕ)) (replies : List Reply) : Type 0 where
  pub read : List ℕ
  pub given : WasGiven of_jobs jobs_old jobs_new name read
  pub fits : length read ≤ jobs_limit
  pub fault : HasRisen (of_jobs.faults jobs_old) (of_jobs.faults jobs_new)
  pub all : AreEnded read lines
  pub output : Took of_out out_old out_new (answers replies)
  pub report : Tells of_report report_old report_new (ended_line (codes "read fault jobs"))

-- The lines are the first jobs of the file, as far as it was read: of those that end in a line feed, or, where it was read to its end
-- within the limit, of all.
pub record AreFirst {J : Type 0} (of_jobs : FilesView J) (jobs_old jobs_new : J) (name : List ℕ) (lines : List (List ℕ)) : Type 0 where
  pub read : List ℕ
  pub given : WasGiven of_jobs jobs_old jobs_new name read
  pub few : length read ≤ jobs_limit + 1
  pub more : List (List ℕ)
  pub among : ((rest : List ℕ) × StartsWith (take jobs_limit read) (lines ++ more) rest)
      ⊎ (IsAtEnd (of_jobs.rest jobs_new) × (length read ≤ jobs_limit) × AreLines read (lines ++ more))

-- 6: the output took a front of the answers to the first jobs, and not all of them, for a cause of its own.
pub record IsCutIn {J O E : Type 0} (of_jobs : FilesView J) (jobs_old jobs_new : J) (of_out : SinkView O) (out_old out_new : O)
    (report_old report_new : E) (name : List ℕ) (lines : List (List ℕ)) (replies : List Reply) : Type 0 where
  pub first : AreFirst of_jobs jobs_old jobs_new name lines
  pub output : IsCutShort of_out out_old out_new (answers replies)
  pub report_kept : report_new ≡ report_old

-- 7: the server itself found no memory; the first jobs were answered.
pub record IsStopped {J O E : Type 0} (of_jobs : FilesView J) (jobs_old jobs_new : J) (of_out : SinkView O) (out_old out_new : O)
    (report_old report_new : E) (name : List ℕ) (lines : List (List ℕ)) (replies : List Reply) : Type 0 where
  pub first : AreFirst of_jobs jobs_old jobs_new name lines
  pub output : Took of_out out_old out_new (answers replies)
  pub report_kept : report_new ≡ report_old

-- what each status says
abbrev pub ServedCause : {J O E : Type 0} → FilesView J → J → J → SinkView O → O → O → SinkView E → E → E → List ℕ → List (List ℕ)
    → List Reply → Status → Type 0
ServedCause of_jobs jobs_old jobs_new of_out out_old out_new of_report report_old report_new name lines replies statuses.AllDone =
    IsServed of_jobs jobs_old jobs_new of_out out_old out_new report_old report_new name lines replies
ServedCause of_jobs jobs_old jobs_new of_out out_old out_new of_report report_old report_new name lines replies statuses.NotAllDone = ⊥
ServedCause of_jobs jobs_old jobs_new of_out out_old out_new of_report report_old report_new name lines replies statuses.BadWords = ⊥
ServedCause of_jobs jobs_old jobs_new of_out out_old out_new of_report report_old report_new name lines replies statuses.Refused = ⊥
ServedCause of_jobs jobs_old jobs_new of_out out_old out_new of_report report_old report_new name lines replies statuses.TooLong =
    IsCutOff of_jobs jobs_old jobs_new of_out out_old out_new of_report report_old report_new name lines replies
ServedCause of_jobs jobs_old jobs_new of_out out_old out_new of_report report_old report_new name lines replies statuses.ReadFault =
    IsBroken of_jobs jobs_old jobs_new of_out out_old out_new of_report report_old report_new name lines replies
ServedCause of_jobs jobs_old jobs_new of_out out_old out_new of_report report_old report_new name lines replies statuses.WriteFault =
    IsCutIn of_jobs jobs_old jobs_new of_out out_old out_new report_old report_new name lines replies
ServedCause of_jobs jobs_old jobs_new of_out out_old out_new of_report report_old report_new name lines replies statuses.NoMemory =
    IsStopped of_jobs jobs_old jobs_new of_out out_old out_new report_old report_new name lines replies
ServedCause of_jobs jobs_old jobs_new of_out out_old out_new of_report report_old report_new name lines replies statuses.NotReplayed = ⊥

-- What a call leaves that serves the jobs of a file: the jobs that were answered, with what each was answered, and the status with
-- its cause.
pub record Serves {J F O E : Type 0} (of_jobs : FilesView J) (jobs_old jobs_new : J) (run : JobRun F) (files_old files_new : F)
    (of_out : SinkView O) (out_old out_new : O) (of_report : SinkView E) (report_old report_new : E) (name : List ℕ) (status : ℕ) : Type 0 where
  pub lines : List (List ℕ)
  pub replies : List Reply
  pub are_replies : AreReplies run files_old files_new lines replies
  pub answered : Status
  pub status_is : status ≡ status_code answered
  pub cause : ServedCause of_jobs jobs_old jobs_new of_out out_old out_new of_report report_old report_new name lines replies answered

-- What a call leaves whose words begin with `serve` and aren't exactly that and a name: it tells so, and touches nothing else.
pub record RefusesWords {J F O E : Type 0} (jobs_old jobs_new : J) (files_old files_new : F) (out_old out_new : O) (of_report : SinkView E)
    (report_old report_new : E) (status : ℕ) : Type 0 where
  pub status_is : status ≡ status_code statuses.BadWords
  pub report : Tells of_report report_old report_new usage_line
  pub jobs_kept : jobs_new ≡ jobs_old
  pub files_kept : files_new ≡ files_old
  pub output_kept : out_new ≡ out_old
