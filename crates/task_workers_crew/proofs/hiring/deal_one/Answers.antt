use Rattle.std.proofs.Common.{◌≡◌, ap, sym, ◌∙◌, arith, length-set}
use Rattle.flow_core_laws.specs.declared.plan.FramePlan.{FramePlan}
use Rattle.flow_core_laws.specs.Plans.{frame_at}
use Rattle.task_workers_crew.proofs.Dealing.{dealt_one}
use Rattle.task_workers_crew.proofs.hiring.deal_one.Goals as goal

pub returns-clause-one_more : goal.returns-clause-one_more
returns-clause-one_more c =
    let e : c.frame.result.wait ≡ (frame_at c.args.plan.now c.args.frame).wait = ap (λ (p : FramePlan). p.wait) c.frame.ensures in
    let p = c.push.ensures in
    let long = length-set c.args.hands.now c.args.turn c.push.new.self in
    dealt_one c.args.plan.now c.args.frame c.args.turn c.next_place.result c.args.hands.now c.index-hands-turn.result c.push.new.self c.requires.so_far (sym e ∙ c.if-frame-ne0.false) p.pushed (λ lt. c.next_place.ensures.before (omega (arith, lt, long))) (λ last. c.next_place.ensures.round (omega (arith, last, long))) c.requires.exists p.bounded p.spare p.deques
