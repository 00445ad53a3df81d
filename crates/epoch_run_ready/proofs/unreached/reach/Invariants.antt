use Rattle.std.proofs.Common.{◌≡◌, ◌≤◌, length}
use Rattle.epoch_run_ready.proofs.unreached.reach.Given as goal

abbrev pub invariant-reaching : goal.invariant-reaching
invariant-reaching l = (l.left ≤ length l.readers) × (length l.low ≡ length l.initial.low)

abbrev pub decreases-reaching : goal.decreases-reaching
decreases-reaching l = l.left
