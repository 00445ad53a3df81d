use Rattle.std.proofs.Common.{◌≡◌, ◌∙◌, ◌<◌, length, get_or, ap, refl, arith}
use Rattle.std.proofs.lemmas.List.{get_or_default}
use Rattle.stream_match.proofs.Waits.{within}
use Rattle.stream_match.proofs.woven.filled.Goals as goal

pub overflow_add-index_mut : goal.overflow_add-index_mut
overflow_add-index_mut c =
    let n = c.args.frames in
    let before = c.resize.new.self.items in
    let none = ap length c.new-waits.ensures.items in
    let len = c.in_ok-resize.ensures.len in
    let lt : n < length before = omega (arith, len) in
    let zero : get_or before n 0 ≡ 0 = c.in_ok-resize.ensures.by_index.1 n 0 refl (omega (arith, none)) (omega (arith, lt, len)) in
    let counted = c.in_ok-fill.ensures.waits n lt in
    let value = c.index_mut.ensures.value ∙ get_or_default c.fill.new.waits.items n _ 0 (omega (arith, c.in_ok-fill.ensures.frames, lt)) in
    omega (arith, value, counted, zero, within c.args.input.now c.args.kept.now n c.args.reads.now, c.requires.few)
