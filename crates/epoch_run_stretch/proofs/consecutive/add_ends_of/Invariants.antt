use Rattle.std.proofs.Common.{◌≡◌, ◌++◌, take}
use Rattle.epoch_run_stretch.specs.Consecutive.{ends_of_batch}
use Rattle.epoch_run_stretch.proofs.consecutive.add_ends_of.Given as goal

abbrev pub invariant-loop-ended : goal.invariant-loop-ended
invariant-loop-ended l = l.ends ≡ l.initial.ends ++ ends_of_batch (take l.ended-index l.ended)
