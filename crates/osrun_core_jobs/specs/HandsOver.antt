-- How bytes and lines are handed over to two sinks.
use Rattle.std.specs.Prelude.{◌≡◌, List, ℕ, ◌⊎◌}
use Rattle.os_io.specs.declared.sink.Sink.{Ghosts as SinkView}
use Rattle.osrun_core_jobs.specs.Telling.{Took, TookLines, IsUndelivered}
use Rattle.osrun_core_jobs.specs.declared.status.Status.{Status}
use Rattle.osrun_core_jobs.specs.declared.status.Status.TheVariants.{WriteFault}

-- all was delivered and the own status is answered, or not all was delivered
abbrev pub HandsOver : {O E : Type 0} → SinkView O → O → O → List ℕ → SinkView E → E → E → List ℕ → (own answered : Status) → Type 0
HandsOver of_out out_old out_new output of_report report_old report_new report own answered =
    (Took of_out out_old out_new output × TookLines of_report report_old report_new report × (answered ≡ own))
    ⊎ (IsUndelivered of_out out_old out_new output of_report report_old report_new report × (answered ≡ WriteFault))
