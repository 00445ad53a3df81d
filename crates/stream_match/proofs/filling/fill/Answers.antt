use Rattle.std.proofs.Common.{◌∙◌, ◌<◌, length, get_or, refl, arith}
use Rattle.std.proofs.lemmas.List.{get_or_default}
use Rattle.stream_match.proofs.Waits.{counts_within, no_stretch, of_own}
use Rattle.stream_match.proofs.filling.fill.Goals as goal

pub overflow_add-index_mut : goal.overflow_add-index_mut
overflow_add-index_mut c =
    let i = c.loop-stretch.invariant in
    let input = c.args.input.now in
    let kept = c.args.kept.now in
    let k = c.loop-stretch.stretch-index in
    let s = get_or c.args.stretches.now k no_stretch in
    let lt = c.loop-stretch-test.true in
    let into : s.to < length c.args.waits.now.items = c.requires.into k no_stretch lt in
    let frames = i.frames in
    let value = c.index_mut.ensures.value ∙ get_or_default c.loop-stretch.waits.items s.to _ 0 (omega (arith, frames, into)) in
    omega (arith, value, i.counted s.to into, c.in_ok-empty.ensures.empty, of_own input kept s.to s refl, counts_within input kept s.to k c.args.stretches.now no_stretch lt, c.requires.few s.to)
