-- What is judged of a case.
use Rattle.std.specs.Prelude.{◌<◌, ℕ, Option}
use Rattle.os_io.specs.declared.files.Files.{Ghosts as FilesView}
use Rattle.os_serve.specs.Commands.{kept_sink}
use Rattle.os_serve_jobs.specs.MemorySinkStates.{MemorySinkState, fresh_kept, output_room}
use Rattle.osrun_core_answer.specs.Answers.{AnswersRequest, IsMade}
use Rattle.osrun_core_jobs.specs.Jobs.{Request}
use Rattle.osrun_core_jobs.specs.Status.{bad_words}
use Rattle.osvectors_cases.specs.Verdicts.{IsVerdict}
use Rattle.osvectors_cases.specs.declared.verdict.Expected.{Expected}
use Rattle.osvectors_cases.specs.declared.verdict.Verdict.{Verdict}

-- The files give what is asked for as the meaning has it, and the verdict is on that: on its status and on its output.
pub record IsVerdictOnMade {F : Type 0} (of_files : FilesView F) (files_old files_new : F) (asked : Option Request) (wanted : Expected)
    (verdict : Verdict) : Type 0 where
  pub made : IsMade of_files files_old files_new asked
  pub is_verdict : IsVerdict made.outcome.own made.outcome.output wanted verdict

-- The command answered what was asked for, with sinks in memory, and the verdict is on its status and on what the output took. Where a run
-- was made, with the status 0 or 1, that is the verdict on what the meaning gives.
pub record IsJudged {F : Type 0} (of_files : FilesView F) (files_old files_new : F) (asked : Option Request) (wanted : Expected)
    (verdict : Verdict) : Type 0 where
  pub status : ℕ
  pub output : MemorySinkState
  pub report : MemorySinkState
  pub answers : AnswersRequest of_files files_old files_new kept_sink (fresh_kept output_room) output kept_sink (fresh_kept output_room)
      report asked status
  pub is_verdict : IsVerdict status output.taken wanted verdict
  pub on_made : status < bad_words → IsVerdictOnMade of_files files_old files_new asked wanted verdict
