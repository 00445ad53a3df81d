use Rattle.std.proofs.Common.{◌≡◌, ◌+◌, ◌++◌, [], All, length}
use Rattle.task_workers_crew.specs.declared.crew.Worker.{Worker}
use Rattle.task_workers_crew.specs.Crew.{TakesFrom, IsEquipped}
use Rattle.task_workers_crew.specs.Dealt.{hands_of, AreNumbered}
use Rattle.task_workers_crew.proofs.hiring.hire.Given as goal

abbrev pub invariant-loop-number : goal.invariant-loop-number
invariant-loop-number g l = (length l.hands.items + l.number ≡ l.workers) × (length l.crew.items ≡ l.number)
    × All (λ h. TakesFrom l.plan (length l.plan.frames) h) l.hands.items
    × All (λ (w : Worker _). IsEquipped l.plan w.hand w.log) l.crew.items
    × All (λ (w : Worker _). g.B.Bodies.fits l.bodies w.scratch) l.crew.items
    × (hands_of l.crew.items ++ l.hands.items ≡ l.initial.hands.items)
    × AreNumbered l.crew.items
    × All (λ (w : Worker _). w.log.frames.items ≡ []) l.crew.items
