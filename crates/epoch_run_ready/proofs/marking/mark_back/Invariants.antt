use Rattle.std.proofs.Common.{◌≤◌, length}
use Rattle.epoch_run_ready.specs.Waiting.{AreMarked, AreMissing}
use Rattle.epoch_run_ready.proofs.marking.mark_back.Given as goal

abbrev pub invariant-marking : goal.invariant-marking
invariant-marking l = record {
  within : l.left ≤ length l.readers;
  marked : AreMarked l.layout l.readers l.initial.waits l.waits;
  missing : AreMissing l.layout l.waits l.missing;
}

abbrev pub decreases-marking : goal.decreases-marking
decreases-marking l = l.left
