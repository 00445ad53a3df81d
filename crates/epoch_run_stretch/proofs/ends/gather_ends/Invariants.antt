use Rattle.std.proofs.Common.{◌≡◌, ◌-◌, length}
use Rattle.epoch_run_batches.specs.Meant.{Run}
use Rattle.epoch_run_batches.specs.Outcome.{AreAllMeant}
use Rattle.epoch_run_stretch.specs.Ends.{AreEndsFrom}
use Rattle.epoch_run_stretch.proofs.ends.gather_ends.Given as goal

abbrev pub invariant-loop-outcome : goal.invariant-loop-outcome
invariant-loop-outcome l = record {
  count : length l.ends ≡ l.count - l.first;
  meant : (run : Run) → AreAllMeant run l.outcomes → AreEndsFrom run l.first l.ends;
}
