use Rattle.std.proofs.Common.{◌<◌, ◌≤◌, ℕ}
use Rattle.stream_match_layouts.specs.Spans.{frame_count, spans_of}
use Rattle.epoch_run_ready.specs.Newest.{marked_from}
use Rattle.epoch_run_ready.specs.Waiting.{AreMissing, HasWaitingSpan}
use Rattle.epoch_run_ready.proofs.newest.wait_from.Given as goal

abbrev pub invariant-looking : goal.invariant-looking
invariant-looking l = record {
  within : l.left ≤ frame_count l.layout;
  missing : AreMissing l.layout (marked_from l.first (frame_count l.layout)) l.missing;
  wait : (a : ℕ) → l.left ≤ a → a < frame_count l.layout → HasWaitingSpan l.layout (marked_from l.first (frame_count l.layout)) (spans_of l.layout a);
}

abbrev pub decreases-looking : goal.decreases-looking
decreases-looking l = l.left
