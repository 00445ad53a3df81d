use Rattle.std.proofs.Common.{ℕ, ◌<◌, Some, ap, ◌∙◌, set, length, arith}
use Rattle.std.proofs.lemmas.List.{get_or_default}
use Rattle.flow_core.proofs.Running.{IsRun-more, IsRun-fewer}
use Rattle.flow_core.proofs.one_thread.run_all.Goals as goal

pub loop-turn-smaller : goal.loop-turn-smaller
loop-turn-smaller g c =
    let run = c.loop-turn.invariant.0 in
    let board = c.loop-turn.board in
    let lt : c.loop-turn.turn < length board.waits.opened.items = omega arith in
    let at = c.index-frame.ensures ∙ get_or_default board.waits.opened.items c.loop-turn.turn _ 0 lt in
    let (e, ends, gives) = c.in_ok-run_frame.ensures.ended in
    IsRun-fewer _ _ board c.loop-turn.turn e _ run lt (ends ∙ ap (λ (f : ℕ). set board.ends.items f (Some e)) at)

pub loop-turn-preserved : goal.loop-turn-preserved
loop-turn-preserved g c =
    let run = c.loop-turn.invariant.0 in
    let board = c.loop-turn.board in
    let lt : c.loop-turn.turn < length board.waits.opened.items = omega arith in
    let at = c.index-frame.ensures ∙ get_or_default board.waits.opened.items c.loop-turn.turn _ 0 lt in
    let (e, ends, gives) = c.in_ok-run_frame.ensures.ended in
    let opens = c.in_ok-run_frame.ensures.opens in
    let grows = opens.grows in
    (IsRun-more _ _ board c.run_frame.new.board c.loop-turn.turn e run lt c.in_ok-run_frame.ensures.counted c.in_ok-run_frame.ensures.shows opens (ends ∙ ap (λ (f : ℕ). set board.ends.items f (Some e)) at), omega arith, c.in_ok-run_frame.ensures.fits_again)
