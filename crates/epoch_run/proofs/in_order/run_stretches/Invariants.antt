use Rattle.std.proofs.Common.{◌-◌, ◌≤◌, length}
use Rattle.control_run.specs.Stretches.{created_so_far}
use Rattle.epoch_run.specs.InOrder.{HaveRunInOrder}
use Rattle.epoch_run.proofs.in_order.run_stretches.Given as goal

abbrev pub invariant-stretches : goal.invariant-stretches
invariant-stretches g l = record {
  ran : HaveRunInOrder l.code l.input l.budgets l.standing l.order;
  no_fewer : length (created_so_far l.fn.standing.control) ≤ length (created_so_far l.standing.control);
}

abbrev pub decreases-stretches : goal.decreases-stretches
decreases-stretches g l = 65536 - length (created_so_far l.standing.control)
