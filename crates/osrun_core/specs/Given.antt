-- How much a call of the command gives of what it is to give.
use Rattle.std.specs.Prelude.{◌≡◌, ◌<◌, ◌≤◌, ℕ}
use Rattle.os_io.specs.declared.sink.Sink.{Ghosts as SinkView}
use Rattle.osrun_core_answer.specs.JobOutcome.{JobOutcome}
use Rattle.osrun_core_jobs.specs.Status.{status_code}
use Rattle.osrun_core_jobs.specs.Telling.{IsUndelivered, Tells, Took, TookLines}
use Rattle.osrun_core_jobs.specs.declared.status.Status.TheVariants as statuses

-- A call gives this outcome, unless a read failed (5), a sink did not take all of it (6), or memory ran out (7).
pub record GivesOutcome {O E : Type 0} (of_out : SinkView O) (out_old out_new : O) (of_report : SinkView E) (report_old report_new : E)
    (status : ℕ) (outcome : JobOutcome) : Type 0 where
  -- Below ReadFault (5) the status is that of the outcome, and the output took all that it writes.
  pub own : status < status_code statuses.ReadFault → status ≡ outcome.own
  pub output : status < status_code statuses.ReadFault → Took of_out out_old out_new outcome.output
  -- Below BadWords (2) the report took its lines, and from there up to TooLong (4) its one line, or a front of that for a cause of the
  -- report's own.
  pub report : status < status_code statuses.BadWords → TookLines of_report report_old report_new outcome.told
  pub refusal : status_code statuses.BadWords ≤ status → status < status_code statuses.ReadFault
      → Tells of_report report_old report_new outcome.told
  -- WriteFault (6): the outcome is one of a status below BadWords, and a sink did not take all of it.
  pub cut_short : status ≡ status_code statuses.WriteFault → (outcome.own < status_code statuses.BadWords)
      × IsUndelivered of_out out_old out_new outcome.output of_report report_old report_new outcome.told
