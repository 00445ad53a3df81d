-- What a call of the command leaves, whatever was asked for.
use Rattle.std.specs.Prelude.{◌≡◌, ◌<◌, ◌≤◌, ◌⊎◌, ℕ, List, [], All, None, Option, Some, slice_get}
use Rattle.std.specs.Option.{option_map_or}
use Rattle.os_io.specs.declared.files.Files.{Ghosts as FilesView}
use Rattle.os_io.specs.declared.sink.Sink.{Ghosts as SinkView}
use Rattle.osrun_core_answer.specs.JobOutcome.{IsOutcome, JobOutcome}
use Rattle.osrun_core_jobs.specs.Files.{JobFile, files_of}
use Rattle.osrun_core_jobs.specs.Jobs.{IsRequestWithin, Request}
use Rattle.osrun_core_jobs.specs.Reading.{IsCauseOf, IsReadable, IsRejected, ReadsInOrder, WereRead}
use Rattle.osrun_core_jobs.specs.Refusal.{refusal_line, refusal_status, usage_line}
use Rattle.osrun_core_jobs.specs.Status.{status_code}
use Rattle.osrun_core_jobs.specs.Telling.{IsUndelivered, Tells, Took, TookLines}
use Rattle.osrun_core_jobs.specs.declared.refusal.Refusal.{Refusal}
use Rattle.osrun_core_jobs.specs.declared.status.Status.{Status}
use Rattle.osrun_core_jobs.specs.declared.status.Status.TheVariants as statuses
use Rattle.osrun_core_run.specs.Refusal.{IsUnusable, IsUsable}

-- the files of what is asked for; where nothing is, there are none
abbrev pub asked_files : Option Request → List JobFile
asked_files asked = option_map_or files_of asked []

-- Something is asked for, its numbers are within their bounds, all its files were read, and there is what it is meant to give
-- over them.
pub record IsMade {F : Type 0} (of_files : FilesView F) (files_old files_new : F) (asked : Option Request) : Type 0 where
  pub request : Request
  pub is_asked : asked ≡ Some request
  pub within : IsRequestWithin request
  pub contents : List (List ℕ)
  pub read : WereRead IsUsable of_files files_old files_new (files_of request) contents
  pub outcome : JobOutcome
  pub is_outcome : IsOutcome contents request outcome

-- 0 and 1: that was given, the sinks took it whole, and its status is answered.
pub record IsGiven {F O E : Type 0} (of_files : FilesView F) (files_old files_new : F) (of_out : SinkView O) (out_old out_new : O)
    (of_report : SinkView E) (report_old report_new : E) (asked : Option Request) (status : ℕ) : Type 0 where
  pub made : IsMade of_files files_old files_new asked
  pub output : Took of_out out_old out_new made.outcome.output
  pub report : TookLines of_report report_old report_new made.outcome.told
  pub own : status ≡ made.outcome.own

-- 6: a sink did not take all of it. What was meant to be given is that of a status below BadWords (2).
pub record IsCut {F O E : Type 0} (of_files : FilesView F) (files_old files_new : F) (of_out : SinkView O) (out_old out_new : O)
    (of_report : SinkView E) (report_old report_new : E) (asked : Option Request) : Type 0 where
  pub made : IsMade of_files files_old files_new asked
  pub own : made.outcome.own < status_code statuses.BadWords
  pub undelivered : IsUndelivered of_out out_old out_new made.outcome.output of_report report_old report_new made.outcome.told

-- 2: nothing is asked for, which is told; no file was touched.
pub record IsUnasked {F O E : Type 0} (files_old files_new : F) (out_old out_new : O) (of_report : SinkView E) (report_old report_new : E)
    (asked : Option Request) : Type 0 where
  pub nothing_asked : asked ≡ None
  pub files_kept : files_new ≡ files_old
  pub output_kept : out_new ≡ out_old
  pub report : Tells of_report report_old report_new usage_line

-- 3, 4 and 5: one of the files is the cause, which is told; nothing was written on the output.
pub record IsFileRefused {F O E : Type 0} (of_files : FilesView F) (files_old files_new : F) (out_old out_new : O)
    (of_report : SinkView E) (report_old report_new : E) (asked : Option Request) (answered : Status) : Type 0 where
  pub request : Request
  pub is_asked : asked ≡ Some request
  pub within : IsRequestWithin request
  pub refusal : Refusal
  pub answered_is : answered ≡ refusal_status refusal
  pub cause : IsCauseOf IsUsable IsUnusable of_files files_old files_new (files_of request) refusal
  pub output_kept : out_new ≡ out_old
  pub report : Tells of_report report_old report_new (refusal_line refusal)

-- 7: want of memory; nothing was written.
pub record IsUnmade {O E : Type 0} (out_old out_new : O) (report_old report_new : E) : Type 0 where
  pub output_kept : out_new ≡ out_old
  pub report_kept : report_new ≡ report_old

-- 8: all files were read, and what is meant to be given is a line alone, that of a trace by which the program isn't run whole. It is
-- told; nothing was written on the output.
pub record IsNotReplayed {F O E : Type 0} (of_files : FilesView F) (files_old files_new : F) (out_old out_new : O)
    (of_report : SinkView E) (report_old report_new : E) (asked : Option Request) : Type 0 where
  pub made : IsMade of_files files_old files_new asked
  pub own : made.outcome.own ≡ status_code statuses.NotReplayed
  pub output_kept : out_new ≡ out_old
  pub report : Tells of_report report_old report_new made.outcome.told

-- what each status says
abbrev pub HasCause : {F O E : Type 0} → FilesView F → F → F → SinkView O → O → O → SinkView E → E → E → Option Request → Status
    → Type 0
HasCause of_files files_old files_new of_out out_old out_new of_report report_old report_new asked statuses.AllDone =
    IsGiven of_files files_old files_new of_out out_old out_new of_report report_old report_new asked (status_code statuses.AllDone)
HasCause of_files files_old files_new of_out out_old out_new of_report report_old report_new asked statuses.NotAllDone =
    IsGiven of_files files_old files_new of_out out_old out_new of_report report_old report_new asked (status_code statuses.NotAllDone)
HasCause of_files files_old files_new of_out out_old out_new of_report report_old report_new asked statuses.BadWords =
    IsUnasked files_old files_new out_old out_new of_report report_old report_new asked
HasCause of_files files_old files_new of_out out_old out_new of_report report_old report_new asked statuses.Refused =
    IsFileRefused of_files files_old files_new out_old out_new of_report report_old report_new asked statuses.Refused
HasCause of_files files_old files_new of_out out_old out_new of_report report_old report_new asked statuses.TooLong =
    IsFileRefused of_files files_old files_new out_old out_new of_report report_old report_new asked statuses.TooLong
HasCause of_files files_old files_new of_out out_old out_new of_report report_old report_new asked statuses.ReadFault =
    IsFileRefused of_files files_old files_new out_old out_new of_report report_old report_new asked statuses.ReadFault
HasCause of_files files_old files_new of_out out_old out_new of_report report_old report_new asked statuses.WriteFault =
    IsCut of_files files_old files_new of_out out_old out_new of_report report_old report_new asked
HasCause of_files files_old files_new of_out out_old out_new of_report report_old report_new asked statuses.NoMemory =
    IsUnmade out_old out_new report_old report_new
HasCause of_files files_old files_new of_out out_old out_new of_report report_old report_new asked statuses.NotReplayed =
    IsNotReplayed of_files files_old files_new out_old out_new of_report report_old report_new asked

-- What a call leaves where this was asked for.
pub record AnswersRequest {F O E : Type 0} (of_files : FilesView F) (files_old files_new : F) (of_out : SinkView O) (out_old out_new : O)
    (of_report : SinkView E) (report_old report_new : E) (asked : Option Request) (status : ℕ) : Type 0 where
  -- The status is one of the nine,
  pub answered : Status
  pub status_is : status ≡ status_code answered
  -- for the cause that is its own, with what the two sinks took.
  pub cause : HasCause of_files files_old files_new of_out out_old out_new of_report report_old report_new asked answered
  -- A file was opened only after those before it were read whole, and were usable.
  pub reads : ReadsInOrder IsUsable of_files files_old files_new (asked_files asked)
  -- Completeness: where all files are told, within their limits and usable, none is told to be the cause but by a fault.
  pub complete : (request : Request) → asked ≡ Some request → All (IsReadable IsUsable (of_files.holds files_old)) (files_of request)
      → (status < status_code statuses.BadWords) ⊎ (status_code statuses.ReadFault ≤ status)
  -- Where the first file is told and within its limit, and its bytes are refused, that is told, unless a read failed or memory ran out.
  pub rejected : (file : JobFile) → slice_get (asked_files asked) 0 ≡ Some file → IsRejected IsUnusable (of_files.holds files_old) file
      → (status ≡ status_code statuses.Refused) ⊎ ((status ≡ status_code statuses.ReadFault) ⊎ (status ≡ status_code statuses.NoMemory))
