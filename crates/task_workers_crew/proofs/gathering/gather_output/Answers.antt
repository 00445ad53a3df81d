use Rattle.std.proofs.Common.{rules, arith, ◌∙◌, ◌≡◌, ◌++◌, ◌∷◌, []}
use Rattle.task_workers_crew.proofs.Gathered.{next_output, all_outputs}
use Rattle.task_workers_crew.proofs.gathering.gather_output.Goals as goal

pub loop-k-preserved : goal.loop-k-preserved
loop-k-preserved g c =
    let e : c.push_spare.new.self.items ≡ c.loop-k.output.items ++ c.cell.result ∷ [] = search rules in
    let room = c.loop-k.invariant.1 in
    let less = c.push_spare.ensures.spare in (
      e ∙ next_output c.args.plan.now (g.B.Bodies.outcome c.args.bodies.now) c.args.seats _ c.loop-k.k c.args.closed.now.frames c.loop-k.output.items c.cell.result c.requires.sound c.requires.whole c.requires.frames c.loop-k-test.true c.loop-k.invariant.0 c.cell.ensures,
      omega (arith, room, less),
    )

pub returns : goal.returns
returns g c = c.into_list.ensures ∙ all_outputs c.args.plan.now (g.B.Bodies.outcome c.args.bodies.now) c.loop-k.k c.loop-k.output.items c.loop-k.invariant.0 c.loop-k-test.false
