use Rattle.std.proofs.Common.{length, sym, ap, ◌∙◌, arith}
use Rattle.flow_core_laws.specs.Round.{gathered}
use Rattle.flow_core_laws.specs.Plans.{plan_meaning}
use Rattle.flow_core_laws.proofs.Gathering.{length-gathered}
use Rattle.flow_core.proofs.Showing.{AreEmpty-waiting, inputs_there, outcome_meant, part_read, length-stretch, reads_meant, IsSome-from}
use Rattle.flow_core.proofs.Ending.{poisoning_fills}
use Rattle.flow_core.proofs.frame_run.run_frame.Goals as goal

pub frame_end-requires-clause-there : goal.frame_end-requires-clause-there
frame_end-requires-clause-there g c =
    let read = part_read c.args.plan.now c.args.frame c.frame-place.result c.args.board.now.cells.items c.deref.result.now c.frame-place.ensures c.deref.ensures.value in
    let (es, h) = inputs_there c.args.plan.now c.args.board.now.cells.items c.args.board.now.waits c.args.frame c.requires.sound c.requires.counted c.requires.exists c.requires.full in
    λ _ _. IsSome-from _ es (ap gathered read ∙ h)

pub take-requires-clause-fits : goal.take-requires-clause-fits
take-requires-clause-fits g c = λ done.
    let read = part_read c.args.plan.now c.args.frame c.frame-place.result c.args.board.now.cells.items c.deref.result.now c.frame-place.ensures c.deref.ensures.value in
    let (es, h) = inputs_there c.args.plan.now c.args.board.now.cells.items c.args.board.now.waits c.args.frame c.requires.sound c.requires.counted c.requires.exists c.requires.full in
    let there = ap gathered read ∙ h in
    let count = length-gathered _ _ h ∙ length-stretch c.args.plan.now c.args.board.now.cells.items c.args.board.now.waits c.args.frame c.requires.sound c.requires.counted (omega arith) in
    ap length c.as_slice.ensures.value ∙ ap length (c.in_ok-end.ensures.outputs es there done) ∙ poisoning_fills _ _ _ c.requires.served c.args.frame c.requires.exists es count (sym (c.in_ok-end.ensures.end es there) ∙ done)

pub take-requires-clause-empty : goal.take-requires-clause-empty
take-requires-clause-empty g c = AreEmpty-waiting _ _ _ _ _ c.requires.sound c.requires.counted.cells_of_plan c.requires.shows c.requires.exists c.requires.waits

pub returns-clause-shows : goal.returns-clause-shows
returns-clause-shows g c =
    let read = part_read c.args.plan.now c.args.frame c.frame-place.result c.args.board.now.cells.items c.deref.result.now c.frame-place.ensures c.deref.ensures.value in
    let (es, h) = inputs_there c.args.plan.now c.args.board.now.cells.items c.args.board.now.waits c.args.frame c.requires.sound c.requires.counted c.requires.exists c.requires.full in
    let there = ap gathered read ∙ h in
    let meant = outcome_meant c.args.plan.now (g.B.Bodies.outcome c.args.bodies.now) c.args.board.now.cells.items c.args.board.now.ends.items c.args.board.now.waits c.args.frame es c.requires.sound c.requires.counted c.requires.shows c.requires.exists h in
    c.in_ok-take.ensures.shows _ c.requires.shows (_, meant, sym (c.in_ok-end.ensures.end es there), λ done. c.as_slice.ensures.value ∙ c.in_ok-end.ensures.outputs es there done)

pub returns-clause-ended : goal.returns-clause-ended
returns-clause-ended g c =
    let read = part_read c.args.plan.now c.args.frame c.frame-place.result c.args.board.now.cells.items c.deref.result.now c.frame-place.ensures c.deref.ensures.value in
    let (es, h) = inputs_there c.args.plan.now c.args.board.now.cells.items c.args.board.now.waits c.args.frame c.requires.sound c.requires.counted c.requires.exists c.requires.full in
    let there = ap gathered read ∙ h in
    let meant = outcome_meant c.args.plan.now (g.B.Bodies.outcome c.args.bodies.now) c.args.board.now.cells.items c.args.board.now.ends.items c.args.board.now.waits c.args.frame es c.requires.sound c.requires.counted c.requires.shows c.requires.exists h in
    (_, c.in_ok-take.ensures.ends, (_, meant, sym (c.in_ok-end.ensures.end es there), λ done. c.in_ok-end.ensures.outputs es there done))

pub returns-clause-reads : goal.returns-clause-reads
returns-clause-reads g c =
    let read = part_read c.args.plan.now c.args.frame c.frame-place.result c.args.board.now.cells.items c.deref.result.now c.frame-place.ensures c.deref.ensures.value in
    let (es, h) = inputs_there c.args.plan.now c.args.board.now.cells.items c.args.board.now.waits c.args.frame c.requires.sound c.requires.counted c.requires.exists c.requires.full in
    let there = ap gathered read ∙ h in
    reads_meant c.args.plan.now (plan_meaning c.args.plan.now (g.B.Bodies.outcome c.args.bodies.now)) c.args.board.now.cells.items c.args.board.now.ends.items c.args.board.now.waits c.args.frame es
    c.frame_end.new.buffers.inputs.items c.requires.sound c.requires.counted c.requires.shows c.requires.exists h (c.in_ok-end.ensures.inputs es there)
