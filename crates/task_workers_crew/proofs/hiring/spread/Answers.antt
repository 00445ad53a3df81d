use Rattle.std.proofs.Common.{arith, subst, ◌≡◌, length}
use Rattle.task_workers_crew.specs.Dealing.{AreDealtBelow}
use Rattle.task_workers_crew.proofs.Dealing.{dealt_all}
use Rattle.task_workers_crew.proofs.hiring.spread.Goals as goal

pub returns-clause-dealt : goal.returns-clause-dealt
returns-clause-dealt c =
    let e : c.loop-frame.frame ≡ length c.args.plan.now.frames = omega (arith, c.loop-frame-test.false, c.len-frame-end.ensures, c.requires.few) in
    dealt_all c.args.plan.now c.loop-frame.turn c.loop-frame.hands (subst (λ n. AreDealtBelow c.args.plan.now n c.loop-frame.turn c.loop-frame.hands) e c.loop-frame.invariant.0)
