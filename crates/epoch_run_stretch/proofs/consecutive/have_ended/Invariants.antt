use Rattle.std.proofs.Common.{take}
use Rattle.epoch_run_stretch.specs.Consecutive.{HaveGoneOnEnds}
use Rattle.epoch_run_stretch.proofs.consecutive.have_ended.Given as goal

abbrev pub invariant-loop-outcome : goal.invariant-loop-outcome
invariant-loop-outcome l = HaveGoneOnEnds l.outcomes (take l.outcome-index l.outcomes) l.first l.number
