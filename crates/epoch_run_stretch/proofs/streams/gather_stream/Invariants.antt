use Rattle.std.proofs.Common.{◌≡◌, length}
use Rattle.epoch_run_batches.specs.Meant.{AreMeant, Run}
use Rattle.epoch_run_batches.specs.Outcome.{AreAllMeant}
use Rattle.epoch_run_stretch.proofs.streams.gather_stream.Given as goal

abbrev pub invariant-loop-outcome : goal.invariant-loop-outcome
invariant-loop-outcome l = record {
  count : length l.elements ≡ l.count;
  meant : (run : Run) → AreAllMeant run l.outcomes → AreMeant run l.stream l.from l.elements;
}
