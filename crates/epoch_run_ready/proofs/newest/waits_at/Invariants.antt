use Rattle.std.proofs.Common.{◌≡◌, true}
use Rattle.stream_match_layouts.specs.Spans.{frame_count, spans_of}
use Rattle.epoch_run_ready.specs.Newest.{marked_from}
use Rattle.epoch_run_ready.specs.Waiting.{AreMissing, HasWaitingSpan}
use Rattle.epoch_run_ready.proofs.newest.waits_at.Given as goal

abbrev pub invariant-loop-span : goal.invariant-loop-span
invariant-loop-span l = record {
  missing : AreMissing l.layout (marked_from l.first (frame_count l.layout)) l.missing;
  waits : l.waits ≡ true → HasWaitingSpan l.layout (marked_from l.first (frame_count l.layout)) (spans_of l.layout l.activation);
}
