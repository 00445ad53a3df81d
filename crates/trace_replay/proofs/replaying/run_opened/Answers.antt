use Rattle.std.proofs.Common.{ℕ, ◌≡◌, ap, sym, ◌∙◌, get_or}
use Rattle.std.proofs.lemmas.List.{get_or_default}
use Rattle.trace_replay.proofs.Standing.{queued_past, queued_more}
use Rattle.trace_replay.proofs.replaying.run_opened.Goals as goal

pub returns-then-owner-lists-clause-queued : goal.returns-then-owner-lists-clause-queued
returns-then-owner-lists-clause-queued g c =
    let at : get_or c.args.board.now.waits.opened.items c.args.turn 0 ≡ c.index.result.now = get_or_default c.args.board.now.waits.opened.items c.args.turn 0 _ c.requires.opened ∙ sym c.index.ensures in
    queued_past c.args.plan.now c.args.lists.now c.args.owners.now c.args.places.now c.args.board.now c.args.turn _ c.requires.owners (ap (λ (f : ℕ). get_or c.args.owners.now f 0) at) c.if-owner-lists.true c.requires.queued

pub returns-clause-queued : goal.returns-clause-queued
returns-clause-queued g c =
    let at : get_or c.args.board.now.waits.opened.items c.args.turn 0 ≡ c.index.result.now = get_or_default c.args.board.now.waits.opened.items c.args.turn 0 _ c.requires.opened ∙ sym c.index.ensures in
    let ran = c.in_ok-run_list.ensures in
    queued_more c.args.plan.now c.args.lists.now c.args.owners.now c.args.places.now c.run_list.new.places c.args.board.now c.run_list.new.board c.args.turn _ c.requires.frames.are_below c.requires.owners c.requires.stands.counted ran.stands.counted c.requires.opened (ap (λ (f : ℕ). get_or c.args.owners.now f 0) at) c.run_list.ensures.others ran.opens ran.waits c.requires.queued
