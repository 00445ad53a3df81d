use Rattle.std.proofs.Common.{rules, arith, ◌∙◌, ◌≡◌, ◌++◌, ◌∷◌, []}
use Rattle.task_workers_crew.proofs.Gathered.{next_end, all_ends}
use Rattle.task_workers_crew.proofs.gathering.gather_ends.Goals as goal

pub loop-frame-preserved : goal.loop-frame-preserved
loop-frame-preserved g c =
    let e : c.push_spare.new.self.items ≡ c.loop-frame.ends.items ++ c.end.result ∷ [] = search rules in
    let room = c.loop-frame.invariant.1 in
    let less = c.push_spare.ensures.spare in (
      e ∙ next_end c.args.plan.now (g.B.Bodies.outcome c.args.bodies.now) c.args.seats _ c.loop-frame.frame c.loop-frame.ends.items c.end.result c.requires.whole (omega (arith, c.loop-frame-test.true, c.len-frame-end.ensures, c.requires.sound.frames_are_few)) c.loop-frame.invariant.0 c.end.ensures,
      omega (arith, room, less),
    )

pub returns : goal.returns
returns g c = c.into_list.ensures ∙ all_ends c.args.plan.now (g.B.Bodies.outcome c.args.bodies.now) c.loop-frame.frame c.loop-frame.ends.items c.loop-frame.invariant.0 (omega (arith, c.loop-frame-test.false, c.len-frame-end.ensures, c.requires.sound.frames_are_few))
