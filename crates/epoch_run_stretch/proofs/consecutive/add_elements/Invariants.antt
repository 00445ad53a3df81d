use Rattle.std.proofs.Common.{◌≡◌, ◌++◌, take}
use Rattle.epoch_run_stretch.specs.Consecutive.{elements_in}
use Rattle.epoch_run_stretch.proofs.consecutive.add_elements.Given as goal

abbrev pub invariant-loop-outcome : goal.invariant-loop-outcome
invariant-loop-outcome l = l.held ≡ l.initial.held ++ elements_in l.stream (take l.outcome-index l.outcomes)
