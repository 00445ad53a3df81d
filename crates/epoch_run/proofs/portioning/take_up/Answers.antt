use Rattle.std.proofs.Common.{◌∙◌, arith}
use Rattle.stream_match_layouts.proofs.Tallies.{frame_count-is}
use Rattle.control_run.specs.Stretches.{created_so_far}
use Rattle.epoch_run.proofs.PortionedOut.{created_anew, none_left, taken_up}
use Rattle.epoch_run.proofs.portioning.take_up.Goals as goal

pub returns-then-len-frames-clause-goes : goal.returns-then-len-frames-clause-goes
returns-then-len-frames-clause-goes c = λ _.
    let portioned = c.requires.portioned in
    let frames = frame_count-is c.args.standing.now.layout (created_so_far c.args.standing.now.control) portioned.laid_out.laid in
    taken_up c.args.code.now c.args.input.now c.args.budgets c.args.standing.now _ c.args.order.now portioned portioned.laid_out portioned.all c.len.ensures
    (c.new.ensures ∙ none_left c.args.code.now c.args.input.now c.args.budgets c.args.standing.now c.args.order.now portioned (omega (arith, c.if-len-frames.true, c.frames.ensures, c.len-2.ensures, frames)))

pub create_anew-requires-clause-within : goal.create_anew-requires-clause-within
create_anew-requires-clause-within c = let w = c.requires.portioned.ran.within in omega (arith, w, c.len-3.ensures)

pub returns-clause-stays : goal.returns-clause-stays
returns-clause-stays c = λ _.
    let e = c.in_ok-create_anew.ensures in
    created_anew c.args.code.now c.args.input.now c.args.budgets c.create_anew.new.standing c.args.order.now c.requires.portioned.ran e.laid
    (e.count ∙ c.len-3.ensures) (e.first ∙ c.len-3.ensures) e.none
