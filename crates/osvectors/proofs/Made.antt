-- The verdict on what a sink in memory took is that on what was made.
use Rattle.std.proofs.Common.{◌≡◌, ◌<◌, ℕ, Option, arith, ap, subst}
use Rattle.std.specs.Prelude.{unwrap_or, []}
use Rattle.os_io.specs.declared.files.Files.{Ghosts as FilesView}
use Rattle.os_serve.specs.Commands.{kept_sink}
use Rattle.os_serve_jobs.specs.MemorySinkStates.{MemorySinkState, fresh_kept, output_room}
use Rattle.osrun_core_answer.specs.Answers.{AnswersRequest, HasCause, IsGiven}
use Rattle.osrun_core_jobs.specs.Jobs.{Request}
use Rattle.osrun_core_jobs.specs.Status.{bad_words, status_code}
use Rattle.osrun_core_jobs.specs.declared.status.Status.{Status}
use Rattle.osrun_core_jobs.specs.declared.status.Status.TheVariants as statuses
use Rattle.osvectors.specs.Judged.{IsVerdictOnMade}
use Rattle.osvectors_cases.specs.Verdicts.{IsVerdict}
use Rattle.osvectors_cases.specs.declared.verdict.Expected.{Expected}
use Rattle.osvectors_cases.specs.declared.verdict.Verdict.{Verdict}

-- of what was given
of_given : {F : Type 0} (of_files : FilesView F) (files_old files_new : F) (asked : Option Request) (output report : MemorySinkState) (status : ℕ)
    (wanted : Expected) (verdict : Verdict)
    → IsGiven of_files files_old files_new kept_sink (fresh_kept output_room) output kept_sink (fresh_kept output_room) report asked status
    → IsVerdict status output.taken wanted verdict → IsVerdictOnMade of_files files_old files_new asked wanted verdict
of_given of_files files_old files_new asked output report status wanted verdict given is =
    let taken : output.taken ≡ given.made.outcome.output = ap (λ known. unwrap_or known []) given.output.0 in
    record {
      made = given.made;
      is_verdict = subst (λ out. IsVerdict given.made.outcome.own out wanted verdict) taken
          (subst (λ own. IsVerdict own output.taken wanted verdict) given.own is);
    }

-- of what a call answered with the status 0 or 1
pub on_made : {F : Type 0} (of_files : FilesView F) (files_old files_new : F) (asked : Option Request) (output report : MemorySinkState) (status : ℕ)
    (wanted : Expected) (verdict : Verdict)
    → AnswersRequest of_files files_old files_new kept_sink (fresh_kept output_room) output kept_sink (fresh_kept output_room) report asked status
    → IsVerdict status output.taken wanted verdict → status < bad_words → IsVerdictOnMade of_files files_old files_new asked wanted verdict
on_made of_files files_old files_new asked output report status wanted verdict answers is low = by answers.answered answers.status_is answers.cause where
  by : (answered : Status) → status ≡ status_code answered
      → HasCause of_files files_old files_new kept_sink (fresh_kept output_room) output kept_sink (fresh_kept output_room) report asked answered
      → IsVerdictOnMade of_files files_old files_new asked wanted verdict
  by statuses.AllDone at cause =
      of_given of_files files_old files_new asked output report 0 wanted verdict cause (subst (λ s. IsVerdict s output.taken wanted verdict) at is)
  by statuses.NotAllDone at cause =
      of_given of_files files_old files_new asked output report 1 wanted verdict cause (subst (λ s. IsVerdict s output.taken wanted verdict) at is)
  by statuses.BadWords at cause = absurd (omega (arith, at, low))
  by statuses.Refused at cause = absurd (omega (arith, at, low))
  by statuses.TooLong at cause = absurd (omega (arith, at, low))
  by statuses.ReadFault at cause = absurd (omega (arith, at, low))
  by statuses.WriteFault at cause = absurd (omega (arith, at, low))
  by statuses.NoMemory at cause = absurd (omega (arith, at, low))
  by statuses.NotReplayed at cause = absurd (omega (arith, at, low))
