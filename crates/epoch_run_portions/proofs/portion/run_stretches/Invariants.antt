use Rattle.std.proofs.Common.{◌-◌}
use Rattle.epoch_run_portions.specs.Running.{Stands}
use Rattle.epoch_run_portions.specs.Walk.{IsSameRun}
use Rattle.epoch_run_portions.proofs.portion.run_stretches.Given as goal

abbrev pub invariant-stretches : goal.invariant-stretches
invariant-stretches l = record {
  stands : Stands l.code l.input l.budget l.walk l.apart;
  same : IsSameRun l.fn.walk.control l.walk.control;
}

abbrev pub decreases-stretches : goal.decreases-stretches
decreases-stretches l = l.to - l.walk.positions.count
