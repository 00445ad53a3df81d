use Rattle.std.proofs.Common.{◌≡◌, length}
use Rattle.epoch_run_batches.specs.Meant.{AreEndsMeant, Run}
use Rattle.epoch_run_stretch.specs.Ends.{AreEndsFrom}
use Rattle.epoch_run_stretch.proofs.ends.put_ends.Given as goal

abbrev pub invariant-loop-ended : goal.invariant-loop-ended
invariant-loop-ended l = record {
  count : length l.ends ≡ length l.initial.ends;
  meant : (run : Run) → AreEndsMeant run l.ended → AreEndsFrom run l.first l.initial.ends → AreEndsFrom run l.first l.ends;
}
