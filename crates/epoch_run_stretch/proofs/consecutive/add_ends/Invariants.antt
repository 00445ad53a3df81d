use Rattle.std.proofs.Common.{◌≡◌, ◌++◌, take}
use Rattle.epoch_run_stretch.specs.Consecutive.{ends_in}
use Rattle.epoch_run_stretch.proofs.consecutive.add_ends.Given as goal

abbrev pub invariant-loop-outcome : goal.invariant-loop-outcome
invariant-loop-outcome l = l.ends ≡ l.initial.ends ++ ends_in (take l.outcome-index l.outcomes)
