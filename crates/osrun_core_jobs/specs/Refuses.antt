-- How a refusal is told.
use Rattle.std.specs.Prelude.{◌≡◌}
use Rattle.os_io.specs.declared.sink.Sink.{Ghosts as SinkView}
use Rattle.osrun_core_jobs.specs.declared.refusal.Refusal.{Refusal}
use Rattle.osrun_core_jobs.specs.declared.refusal.Refusal.TheVariants as refusals
use Rattle.osrun_core_jobs.specs.Refusal.{refusal_line}
use Rattle.osrun_core_jobs.specs.Telling.{Tells}

-- the refusal's line was told; of want of memory nothing is
abbrev pub Refuses : {S : Type 0} → SinkView S → S → S → Refusal → Type 0
Refuses view old new (refusals.Refused code line) = Tells view old new (refusal_line (refusals.Refused code line))
Refuses view old new (refusals.TooLong subject) = Tells view old new (refusal_line (refusals.TooLong subject))
Refuses view old new (refusals.ReadFault subject) = Tells view old new (refusal_line (refusals.ReadFault subject))
Refuses view old new refusals.Memory = new ≡ old
