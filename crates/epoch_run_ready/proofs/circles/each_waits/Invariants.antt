use Rattle.std.proofs.Common.{◌<◌, ◌≤◌, ℕ}
use Rattle.stream_match_layouts.specs.Spans.{spans_of}
use Rattle.epoch_run_ready.specs.Waiting.{HasWaitingSpan}
use Rattle.epoch_run_ready.proofs.circles.each_waits.Given as goal

abbrev pub invariant-loop-activation : goal.invariant-loop-activation
invariant-loop-activation l = (a : ℕ) → l.first ≤ a → a < l.activation → HasWaitingSpan l.layout l.waits (spans_of l.layout a)
