use Rattle.stream_match_layouts.specs.Spans.{frame_count}
use Rattle.epoch_run_ready.specs.Newest.{marked_from}
use Rattle.epoch_run_ready.specs.Waiting.{AreMissing}
use Rattle.epoch_run_ready.proofs.circles.lower_from.Given as goal

abbrev pub invariant-loop-activation : goal.invariant-loop-activation
invariant-loop-activation l = AreMissing l.layout (marked_from l.from (frame_count l.layout)) l.missing
