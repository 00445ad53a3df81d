use Rattle.std.proofs.Common.{arith, length}
use Rattle.std.proofs.lemmas.List.{length-drop}
use Rattle.task_workers.proofs.Apart.{opened_few}
use Rattle.trace_replay.proofs.replaying.run_heads.Goals as goal

pub loop-turn-smaller : goal.loop-turn-smaller
loop-turn-smaller g c =
    let board = c.loop-turn.board in
    let l = c.loop-turn.invariant in
    let few = opened_few (length c.args.plan.now.frames) 0 board.waits l.stands.counted.opens_full l.stands.counted.frames_of_plan in
    let all = length-drop 0 board.waits.opened.items in
    omega (arith, few, all)
