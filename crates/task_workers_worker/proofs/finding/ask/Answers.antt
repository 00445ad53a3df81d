use Rattle.std.proofs.Common.{arith, subst, ◌<◌}
use Rattle.frame_table.specs.Tokens.{view_of, known_of}
use Rattle.steal_pool.specs.Lines.{IsBelow}
use Rattle.steal_pool.specs.Hands.{bound_of}
use Rattle.task_workers_worker.proofs.Steps.{idled_missed, claimed_now}
use Rattle.task_workers_worker.proofs.finding.ask.Goals as goal

pub returns-then-claim-clause-claimed : goal.returns-then-claim-clause-claimed
returns-then-claim-clause-claimed c =
    let known = known_of c.args.table.now in
    let v = view_of c.args.seat.now in
    let w = view_of c.claim.new.seat in
    let low : c.in-Frame.frame < bound_of c.args.hand.now = subst (IsBelow (bound_of c.args.hand.now)) c.in-Frame.is c.next.ensures.below in
    let bound = c.requires.bounded in
    claimed_now known v w c.in-Frame.frame c.claim.result c.claim.ensures.step c.if-claim.true (omega (arith, low, bound)) (c.claim.ensures.new c.if-claim.true)

pub returns-clause-none : goal.returns-clause-none
returns-clause-none c = idled_missed (known_of c.args.table.now) (view_of c.args.seat.now) (view_of c.claim.new.seat) c.in-Frame.frame c.claim.result c.requires.idle c.claim.ensures.step c.if-claim.false
