-- What each job is answered.
use Rattle.std.specs.Prelude.{◌≡◌, ◌⊎◌, ℕ, true, false, List, Some}
use Rattle.os_io.specs.declared.files.Files.{Ghosts as FilesView}
use Rattle.os_io.specs.declared.sink.Sink.{Ghosts as SinkView}
use Rattle.osrun_core_answer.specs.Answers.{AnswersRequest}
use Rattle.osrun_core_words.specs.Command.{command}
use Rattle.os_serve.specs.Command.{Text, is_serve}
use Rattle.os_serve_answers.specs.Replies.{no_job, reply_by}
use Rattle.os_serve_jobs.specs.Answers.{Reply}
use Rattle.os_serve_jobs.specs.MemorySinkStates.{MemorySinkState, fresh_kept, output_room}
use Rattle.os_serve_jobs.specs.Words.{IsText, line_words}

-- how many bytes the report of a job may have; no job has more
abbrev pub report_room : ℕ
report_room = 8400000

-- how many jobs wait at most beside the one that runs
abbrev pub most_waiting : ℕ
most_waiting = 15

-- a sink in memory as a sink: it tells its bytes, and fails where it finds no memory
abbrev pub kept_sink : SinkView MemorySinkState
kept_sink = record { faults = λ s. s.faults; empty_takes = λ _. 0; taken = λ s. Some s.taken }

-- What the command leaves where it is called for the words, with fresh sinks in memory.
pub record IsReplyOf {F : Type 0} (of_files : FilesView F) (files_old files_new : F) (words : List Text) (reply : Reply) : Type 0 where
  pub output : MemorySinkState
  pub report : MemorySinkState
  pub status : ℕ
  pub answers : AnswersRequest of_files files_old files_new kept_sink (fresh_kept output_room) output kept_sink (fresh_kept report_room) report
      (command words) status
  pub reply_is : reply ≡ reply_by status output report

-- the line is no text, or asks for a server
abbrev pub NamesNoJob : List ℕ → Type 0
NamesNoJob line = (IsText line → ⊥) ⊎ (is_serve (line_words line) ≡ true)

-- a job is answered as the command does, and a line that names none as words that name none
abbrev pub IsReplyTo : {F : Type 0} → FilesView F → (files_old files_new : F) → (line : List ℕ) → Reply → Type 0
IsReplyTo of_files files_old files_new line reply =
    (IsText line × (is_serve (line_words line) ≡ false) × IsReplyOf of_files files_old files_new (line_words line) reply)
    ⊎ (NamesNoJob line × (reply ≡ no_job) × (files_new ≡ files_old))
