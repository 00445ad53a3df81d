use Rattle.std.proofs.Common.{◌-◌}
use Rattle.epoch_run_portions.specs.Walk.{HasWalked, IsSameRun}
use Rattle.epoch_run_portions.proofs.walk.Walk.pass_to.Given as goal

abbrev pub invariant-passing : goal.invariant-passing
invariant-passing l = record {
  walked : HasWalked l.self;
  same : IsSameRun l.fn.self.control l.self.control;
}

abbrev pub decreases-passing : goal.decreases-passing
decreases-passing l = l.count - l.self.positions.count
