use Rattle.std.proofs.Common.{ℕ, length, ap, subst, arith, rules}
use Rattle.std.proofs.lemmas.List.{length-drop}
use Rattle.flow_core_laws.specs.Plans.{plan_meaning}
use Rattle.flow_core.specs.Board.{IsRun}
use Rattle.task_workers_round.specs.Results.{room_of}
use Rattle.task_workers.proofs.Apart.{opened_few, opened_room}
use Rattle.task_workers.proofs.rounds.run_round.Goals as goal

pub outputs_of-room-requires : goal.outputs_of-room-requires
outputs_of-room-requires g c =
    let within = opened_room c.args.plan.now c.args.turn c.args.board.now.waits c.requires.begins.counted.opens_full c.requires.begins.counted.frames_of_plan in
    let few = c.requires.sound.all_outputs_are_few in
    let same = ap (room_of c.args.plan.now) c.opened_from.ensures in
    omega (arith, within, few, same)

pub split_at_mut-ends-requires : goal.split_at_mut-ends-requires
split_at_mut-ends-requires g c =
    let few = opened_few (length c.args.plan.now.frames) c.args.turn c.args.board.now.waits c.requires.begins.counted.opens_full c.requires.begins.counted.frames_of_plan in
    let room = c.requires.room.0 in
    omega (arith, few, room, length-drop c.args.turn c.args.board.now.waits.opened.items, c.len-next.ensures)

pub split_at_mut-outputs-requires : goal.split_at_mut-outputs-requires
split_at_mut-outputs-requires g c =
    let within = opened_room c.args.plan.now c.args.turn c.args.board.now.waits c.requires.begins.counted.opens_full c.requires.begins.counted.frames_of_plan in
    let room = c.requires.room.1 in
    let same = ap (room_of c.args.plan.now) c.opened_from.ensures in
    omega (arith, within, room, same, c.outputs_of-room.ensures)

pub returns-clause-runs : goal.returns-clause-runs
returns-clause-runs g c =
    let m = plan_meaning c.args.plan.now (g.B.Bodies.outcome c.args.bodies.now) in
    subst (λ (next : ℕ). IsRun c.args.plan.now m c.deliver.new.board next) (search rules) (c.in_ok-deliver.ensures.runs m c.requires.begins c.in_ok-run_opened.ensures.results)
