use Rattle.std.proofs.Common.{◌∙◌, ◌+◌, ◌++◌, ◌∷◌, [], length, get_or, refl, sym, ap, arith, zero-add}
use Rattle.std.proofs.lemmas.List.FromFn.{get_or-map-range_with_len, length-map-range_with_len, map-range_with_len_more}
use Rattle.stream_match.specs.Stretch.{pieces_from}
use Rattle.stream_match.specs.EpochCode.{epoch_frame}
use Rattle.stream_match.proofs.Placed.{length-by_frame, length-by_frame-more}
use Rattle.stream_match.proofs.Behind.{reads_more, reads_few, epoch_frame_is}
use Rattle.stream_match.proofs.epoch_frames.epoch_frames.Goals as goal

pub overflow_add-cell : goal.overflow_add-cell
overflow_add-cell c =
    let layout = c.args.layout.now in
    let frames = c.args.frames.now in
    let k = c.loop-number.number in
    omega (arith, c.loop-number.invariant.cell, c.frame_tally-tally.ensures.inputs, reads_more layout c.requires.layout frames k c.loop-number-test.true, reads_few layout c.requires.layout frames c.requires.frames (k + 1))

pub bounds-counts-number : goal.bounds-counts-number
bounds-counts-number c = omega (arith, c.loop-number-test.true, ap length (c.as_slice-counts.ensures.value ∙ c.in_ok-counted.ensures) ∙ length-map-range_with_len (λ g. length (pieces_from c.args.pieces.now g)) 0 (length c.args.frames.now))

pub overflow_add-piece : goal.overflow_add-piece
overflow_add-piece c =
    let all = c.args.pieces.now in
    let n = length c.args.frames.now in
    let f = c.loop-number.number in
    let count = ap (λ xs. get_or xs f 0) (c.as_slice-counts.ensures.value ∙ c.in_ok-counted.ensures) ∙ get_or-map-range_with_len (λ g. length (pieces_from all g)) 0 n f f 0 c.loop-number-test.true (zero-add f) in
    let few = c.requires.few in
    omega (arith, c.loop-number.invariant.piece, count, length-by_frame-more all f, length-by_frame all (f + 1))

pub loop-number-preserved : goal.loop-number-preserved
loop-number-preserved c =
    let layout = c.args.layout.now in
    let frames = c.args.frames.now in
    let waits = c.args.waits.now in
    let all = c.args.pieces.now in
    let n = length frames in
    let f = c.loop-number.number in
    let i = c.loop-number.invariant in
    let t = c.frame_tally-tally.ensures in
    let a = get_or frames f 0 in
    let count = ap (λ xs. get_or xs f 0) (c.as_slice-counts.ensures.value ∙ c.in_ok-counted.ensures) ∙ get_or-map-range_with_len (λ g. length (pieces_from all g)) 0 n f f 0 c.loop-number-test.true (zero-add f) in
    record {
      plans = c.in_ok-push.ensures.ok ∙ ap (λ x. c.loop-number.plans ++ x ∷ []) (epoch_frame_is layout frames all waits f c.loop-number.cell c.frame_tally-tally.result.inputs c.frame_tally-tally.result.outputs (get_or waits f 0) c.loop-number.piece (get_or c.as_slice-counts.result.now f 0) i.cell t.inputs t.outputs refl i.piece count)
          ∙ ap (λ xs. xs ++ epoch_frame layout frames all waits f ∷ []) i.plans ∙ sym (map-range_with_len_more (epoch_frame layout frames all waits) 0 f f (zero-add f));
      cell = omega (arith, i.cell, t.inputs, reads_more layout c.requires.layout frames f c.loop-number-test.true);
      piece = omega (arith, i.piece, count, length-by_frame-more all f);
    }
