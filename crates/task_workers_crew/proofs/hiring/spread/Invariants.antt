use Rattle.std.proofs.Common.{◌≡◌, length}
use Rattle.task_workers_crew.specs.Dealing.{AreDealtBelow}
use Rattle.task_workers_crew.proofs.hiring.spread.Given as goal

abbrev pub invariant-loop-frame : goal.invariant-loop-frame
invariant-loop-frame l = AreDealtBelow l.plan l.frame l.turn l.hands × (length l.hands ≡ length l.fn.hands)
