use Rattle.std.proofs.Common.{◌≤◌, length}
use Rattle.epoch_run_ready.proofs.marking.up_to_last_behind.Given as goal

abbrev pub invariant-readers : goal.invariant-readers
invariant-readers l = l.left ≤ length l.readers

abbrev pub decreases-readers : goal.decreases-readers
decreases-readers l = l.left
