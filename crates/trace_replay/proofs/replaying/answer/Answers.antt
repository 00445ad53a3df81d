use Rattle.trace_replay.proofs.Ending.{are_stuck, are_short, are_whole}
use Rattle.trace_replay.proofs.replaying.answer.Goals as goal

pub first_hole-cell-requires : goal.first_hole-cell-requires
first_hole-cell-requires g c =
    let left = c.in-Some.ensures.some in
    record {
      sound = c.requires.sound;
      exists = c.requires.frames.are_below c.in-Some.list _ c.in-Some.frame left.head;
      counted = c.requires.stands.counted;
      misses = c.requires.waits c.in-Some.list left.exists c.in-Some.frame left.head;
    }

pub returns-in-Some : goal.returns-in-Some
returns-in-Some g c = (c.requires.frames, are_stuck c.args.plan.now (g.B.Bodies.outcome c.args.bodies.now) c.args.lists.now c.requires.sound c.requires.frames c.args.places.now c.args.board.now c.requires.stands c.in-Some.list c.in-Some.frame c.first_hole-cell.result c.requires.waits c.in-Some.ensures.some c.first_hole-cell.ensures)

pub returns-in-Some-first_free : goal.returns-in-Some-first_free
returns-in-Some-first_free g c = (c.requires.frames, are_short c.args.plan.now (g.B.Bodies.outcome c.args.bodies.now) c.args.lists.now c.requires.sound c.requires.frames c.args.places.now c.args.board.now c.requires.stands c.in_default.ensures.none c.in-Some-first_free.frame c.in-Some-first_free.ensures.some)

pub returns : goal.returns
returns g c = (c.requires.frames, are_whole c.args.plan.now (g.B.Bodies.outcome c.args.bodies.now) c.args.lists.now c.requires.sound c.requires.frames c.args.places.now c.args.board.now c.requires.stands c.in_default.ensures.none c.in_ok-ends.ends c.in_default-first_free.ensures.none c.in_ok-ends.ensures.ends c.in_ok-ends.ensures.output)
