use Rattle.std.proofs.Common.{◌-◌, length}
use Rattle.control_run.specs.Stretches.{created_so_far}
use Rattle.epoch_run.specs.Standing.{StandsAt}
use Rattle.epoch_run.proofs.epochs.run_by.Given as goal

abbrev pub invariant-epochs : goal.invariant-epochs
invariant-epochs g l = StandsAt l.code l.input l.budgets l.standing

abbrev pub decreases-epochs : goal.decreases-epochs
decreases-epochs g l = 65536 - length (created_so_far l.standing.control)
