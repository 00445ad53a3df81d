use Rattle.std.proofs.Common.{◌+◌, ◌*◌, ◌-◌, length}
use Rattle.task_workers_round.proofs.halves.+halves.Given as goal

abbrev pub decreases-both_halves : goal.decreases-both_halves
decreases-both_halves g l = 3 * (length l.first.now + length l.second.now) - 1

abbrev pub decreases-run_part : goal.decreases-run_part
decreases-run_part g l = 3 * length l.workers.now

abbrev pub decreases-both_halves-one : goal.decreases-both_halves-one
decreases-both_halves-one g l = 3 * length l.first.now + 1

abbrev pub decreases-both_halves-other : goal.decreases-both_halves-other
decreases-both_halves-other g l = 3 * length l.second.now + 1
