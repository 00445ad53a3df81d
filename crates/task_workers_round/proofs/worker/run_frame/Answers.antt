use Rattle.std.proofs.Common.{ℕ, length, sym, ap, ◌∙◌, subst, arith}
use Rattle.flow_core_laws.specs.Plans.{frame_at}
use Rattle.flow_core_laws.specs.Round.{gathered}
use Rattle.flow_core.proofs.Showing.{inputs_there, outcome_meant, part_read, length-stretch, IsSome-from}
use Rattle.task_workers_round.proofs.worker.run_frame.Goals as goal

pub frame_end-requires-clause-there : goal.frame_end-requires-clause-there
frame_end-requires-clause-there g c =
    let read = part_read c.args.plan.now c.args.frame c.frame-place.result c.args.board.now.cells.items c.deref.result.now c.frame-place.ensures c.deref.ensures.value in
    let (es, h) = inputs_there c.args.plan.now c.args.board.now.cells.items c.args.board.now.waits c.args.frame c.requires.sound c.requires.counted c.requires.may_run.0 c.requires.may_run.1 in
    λ _ _. IsSome-from _ es (ap gathered read ∙ h)

pub frame_end-requires-clause-taken : goal.frame_end-requires-clause-taken
frame_end-requires-clause-taken g c =
    let read = part_read c.args.plan.now c.args.frame c.frame-place.result c.args.board.now.cells.items c.deref.result.now c.frame-place.ensures c.deref.ensures.value in
    let place = frame_at c.args.plan.now c.args.frame in
    λ _ _. subst (λ (k : ℕ). g.B.Bodies.takes c.args.bodies.now c.args.frame k (length c.args.outputs.now)) (sym (ap length read ∙ length-stretch c.args.plan.now c.args.board.now.cells.items c.args.board.now.waits c.args.frame c.requires.sound c.requires.counted (let lt = c.requires.may_run.0 in omega arith)))
    (subst (λ (k : ℕ). g.B.Bodies.takes c.args.bodies.now c.args.frame place.inputs k) (sym c.requires.room) (c.requires.served.takes_each c.args.frame c.requires.may_run.0))

pub returns-clause-gives : goal.returns-clause-gives
returns-clause-gives g c =
    let read = part_read c.args.plan.now c.args.frame c.frame-place.result c.args.board.now.cells.items c.deref.result.now c.frame-place.ensures c.deref.ensures.value in
    let (es, h) = inputs_there c.args.plan.now c.args.board.now.cells.items c.args.board.now.waits c.args.frame c.requires.sound c.requires.counted c.requires.may_run.0 c.requires.may_run.1 in
    let there = ap gathered read ∙ h in
    let meant = outcome_meant c.args.plan.now (g.B.Bodies.outcome c.args.bodies.now) c.args.board.now.cells.items c.args.board.now.ends.items c.args.board.now.waits c.args.frame es c.requires.sound c.requires.counted c.requires.shows c.requires.may_run.0 h in
    (_, meant, sym (c.in_ok-end.ensures.end es there), λ done. c.in_ok-end.ensures.outputs es there done)
