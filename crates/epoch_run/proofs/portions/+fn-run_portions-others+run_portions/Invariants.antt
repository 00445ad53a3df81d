use Rattle.std.proofs.Common.{◌+◌, ◌*◌}
use Rattle.epoch_run.proofs.portions.+fn-run_portions-others+run_portions.Given as goal

abbrev pub decreases-others : goal.decreases-others
decreases-others g l = 2 * l.number

abbrev pub decreases-run_portions : goal.decreases-run_portions
decreases-run_portions g l = 2 * l.number + 1
