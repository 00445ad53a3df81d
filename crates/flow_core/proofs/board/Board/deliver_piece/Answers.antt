use Rattle.std.proofs.Common.{arith}
use Rattle.flow_core.proofs.Carrying.{piece_read, fits_cells, Carries-from_fill, count_fits, IsCounted-lowered, IsCounted-sink}
use Rattle.flow_core.proofs.board.Board.deliver_piece.Goals as goal

pub fill-requires-clause-fits : goal.fill-requires-clause-fits
fill-requires-clause-fits c =
    let is = piece_read c.args.plan.now c.as_slice.result.now c.args.number _ c.as_slice.ensures c.requires.exists in
    fits_cells _ _ _ _ _ c.requires.sound is c.requires.counted

pub fill-requires-clause-given : goal.fill-requires-clause-given
fill-requires-clause-given c =
    let is = piece_read c.args.plan.now c.as_slice.result.now c.args.number _ c.as_slice.ensures c.requires.exists in
    c.requires.fits _ is

pub lower-requires-clause-some : goal.lower-requires-clause-some
lower-requires-clause-some c =
    let is = piece_read c.args.plan.now c.as_slice.result.now c.args.number _ c.as_slice.ensures c.requires.exists in
    (c.requires.sound.pieces_are_sound _ _ is).has_elements

pub lower-requires-clause-fits : goal.lower-requires-clause-fits
lower-requires-clause-fits c =
    let is = piece_read c.args.plan.now c.as_slice.result.now c.args.number _ c.as_slice.ensures c.requires.exists in
    let carries = Carries-from_fill _ _ _ _ _ _ _ is c.fill.ensures.filled c.fill.ensures.before c.fill.ensures.behind in
    count_fits _ _ _ _ _ _ _ _ c.requires.sound is (c.requires.fits _ is) c.requires.empty carries c.requires.counted (omega arith)

pub returns-in_ok-lower-clause-carried : goal.returns-in_ok-lower-clause-carried
returns-in_ok-lower-clause-carried c =
    let is = piece_read c.args.plan.now c.as_slice.result.now c.args.number _ c.as_slice.ensures c.requires.exists in
    Carries-from_fill _ _ _ _ _ _ _ is c.fill.ensures.filled c.fill.ensures.before c.fill.ensures.behind

pub returns-in_ok-lower-clause-counted : goal.returns-in_ok-lower-clause-counted
returns-in_ok-lower-clause-counted c =
    let is = piece_read c.args.plan.now c.as_slice.result.now c.args.number _ c.as_slice.ensures c.requires.exists in
    let carries = Carries-from_fill _ _ _ _ _ _ _ is c.fill.ensures.filled c.fill.ensures.before c.fill.ensures.behind in
    IsCounted-lowered _ _ _ _ _ _ _ _ _ c.requires.sound is (c.requires.fits _ is) c.requires.empty carries c.fill.ensures.length c.requires.counted (omega arith) c.in_ok-lower.ensures.lowered c.in_ok-lower.ensures.full

pub returns-else-piece-len-clause-carried : goal.returns-else-piece-len-clause-carried
returns-else-piece-len-clause-carried c =
    let is = piece_read c.args.plan.now c.as_slice.result.now c.args.number _ c.as_slice.ensures c.requires.exists in
    Carries-from_fill _ _ _ _ _ _ _ is c.fill.ensures.filled c.fill.ensures.before c.fill.ensures.behind

pub returns-else-piece-len-clause-counted : goal.returns-else-piece-len-clause-counted
returns-else-piece-len-clause-counted c =
    let is = piece_read c.args.plan.now c.as_slice.result.now c.args.number _ c.as_slice.ensures c.requires.exists in
    let carries = Carries-from_fill _ _ _ _ _ _ _ is c.fill.ensures.filled c.fill.ensures.before c.fill.ensures.behind in
    IsCounted-sink _ _ _ _ _ _ _ _ c.requires.sound is carries c.fill.ensures.length c.requires.counted (omega arith)
