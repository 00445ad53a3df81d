use Rattle.std.proofs.Common.{◌+◌, ◌<◌, length, refl, ap, ◌∙◌, arith}
use Rattle.std.proofs.lemmas.List.{get_or_default}
use Rattle.flow_core_laws.specs.declared.plan.FramePlan.{FramePlan}
use Rattle.flow_core_laws.specs.declared.task_end.TaskEnd.TheVariants.{Done}
use Rattle.task_workers.proofs.Delivering.{next_fits, next_empty, HasDelivered-more}
use Rattle.task_workers.proofs.rounds.deliver.Goals as goal

pub slice_bounds-take-end : goal.slice_bounds-take-end
slice_bounds-take-end c =
    let delivered = c.loop-k.invariant in
    let grows = delivered.opens.grows in
    let lt : c.args.turn + c.loop-k.k < length c.args.board.now.waits.opened.items = (let e = c.requires.end_each in omega arith) in
    let at = c.index-frame.ensures ∙ get_or_default c.loop-k.board.waits.opened.items (c.args.turn + c.loop-k.k) _ 0 (omega arith) in
    let fits = next_fits c.args.plan.now c.args.turn c.args.ends.now c.args.outputs.now c.args.board.now c.loop-k.board c.loop-k.first c.loop-k.k _ _ delivered lt at (ap (λ (p : FramePlan). p.outputs) c.frame.ensures) c.requires.room in
    omega arith

pub take-requires-clause-empty : goal.take-requires-clause-empty
take-requires-clause-empty c =
    let delivered = c.loop-k.invariant in
    let grows = delivered.opens.grows in
    let lt : c.args.turn + c.loop-k.k < length c.loop-k.board.waits.opened.items = (let e = c.requires.end_each in omega arith) in
    let at = c.index-frame.ensures ∙ get_or_default c.loop-k.board.waits.opened.items (c.args.turn + c.loop-k.k) _ 0 lt in
    let (m, run, results) = c.requires.come_to in
    next_empty c.args.plan.now m c.loop-k.board (c.args.turn + c.loop-k.k) _ c.requires.sound (delivered.runs m (run, results)) lt at

pub loop-k-preserved : goal.loop-k-preserved
loop-k-preserved c =
    let delivered = c.loop-k.invariant in
    let grows = delivered.opens.grows in
    let lt : c.args.turn + c.loop-k.k < length c.args.board.now.waits.opened.items = (let e = c.requires.end_each in omega arith) in
    let at = c.index-frame.ensures ∙ get_or_default c.loop-k.board.waits.opened.items (c.args.turn + c.loop-k.k) _ 0 (omega arith) in
    let (m, run, results) = c.requires.come_to in
    HasDelivered-more c.args.plan.now c.args.turn c.args.ends.now c.args.outputs.now _ c.args.board.now c.loop-k.board c.take.new.self c.loop-k.first c.loop-k.k _ _ _ m (run, results) delivered lt at
    (ap (λ (p : FramePlan). p.outputs) c.frame.ensures)
    (get_or_default c.args.ends.now c.loop-k.k _ Done c.loop-k-test.true)
    refl
    c.in_ok-take.ensures.counted c.in_ok-take.ensures.ends c.in_ok-take.ensures.opens c.in_ok-take.ensures.shows
