use Rattle.std.proofs.Common.{take}
use Rattle.epoch_run_stretch.specs.Consecutive.{HaveGoneOn}
use Rattle.epoch_run_stretch.proofs.consecutive.is_consecutive.Given as goal

abbrev pub invariant-loop-outcome : goal.invariant-loop-outcome
invariant-loop-outcome l = HaveGoneOn l.outcomes (take l.outcome-index l.outcomes) l.stream l.from l.position
