use Rattle.std.proofs.Common.{◌≡◌, sum_by, take}
use Rattle.stream_match_layouts.specs.Spans.{write_count}
use Rattle.epoch_run_batches.proofs.activation.written_count.Given as goal

abbrev pub invariant-loop-span : goal.invariant-loop-span
invariant-loop-span l = l.written ≡ sum_by write_count (take l.span-index l.spans)
