use Rattle.std.proofs.Common.{◌≡◌, ◌<◌, ◌≤◌, Some, length, ℕ}
use Rattle.std.specs.Prelude.{slice_get}
use Rattle.epoch_run_ready.proofs.circles.readers_before.Given as goal

abbrev pub invariant-back : goal.invariant-back
invariant-back l = record {
  few : l.from ≤ l.first;
  within : l.left ≤ length l.readers;
  are_readers : (b : ℕ) → l.from ≤ b → b < l.first → (f : ℕ) × (slice_get l.readers f ≡ Some b);
}

abbrev pub decreases-back : goal.decreases-back
decreases-back l = l.left
