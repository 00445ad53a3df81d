use Rattle.std.proofs.Common.{◌≡◌, length, All}
use Rattle.task_workers_round.specs.declared.worker.Worker.{Worker}
use Rattle.task_workers_round.proofs.worker.hire.Given as goal

abbrev pub invariant-loop-number : goal.invariant-loop-number
invariant-loop-number g l = (length l.workers.items ≡ l.number) × All (λ (w : Worker _). g.B.Bodies.fits l.bodies w.scratch) l.workers.items
