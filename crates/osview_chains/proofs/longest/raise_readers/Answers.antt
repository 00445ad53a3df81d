use Rattle.std.proofs.Common.{◌≡◌, ◌∙◌, ◌+◌, ◌<◌, ◌≤◌, List, Some, ap, arith, get_or, length, set, max, subst}
use Rattle.std.specs.Prelude.{slice_get}
use Rattle.std.proofs.lemmas.Option.{slice_get-get_or}
use Rattle.flow_core_laws.specs.IsSound.{IsSoundPiece}
use Rattle.flow_core_laws.specs.Plans.{frame_at}
use Rattle.flow_core_laws.specs.declared.plan.FramePlan.{FramePlan}
use Rattle.flow_core_laws.specs.declared.plan.Piece.{Piece}
use Rattle.osview_chains.proofs.Raising.{none_raised, one_more_piece}
use Rattle.osview_chains.proofs.longest.raise_readers.Goals as goal

pub loop-number-init : goal.loop-number-init
loop-number-init c = none_raised _ _ _ _ _

pub loop-number-preserved : goal.loop-number-preserved
loop-number-preserved c =
    let plan = c.args.plan.now in
    let number = c.loop-number.number in
    let mid = c.loop-number.behind in
    let at = c.frame-piece.ensures in
    let exists = c.requires.exists in
    let low : (frame_at plan c.args.frame).piece ≤ number = subst (λ (f : FramePlan). f.piece ≤ number) at c.loop-number.auto.number in
    let high : number < (frame_at plan c.args.frame).piece + (frame_at plan c.args.frame).pieces = subst (λ (f : FramePlan). number < f.piece + f.pieces) at c.loop-number-test.true in
    let all = c.requires.sound.pieces_exist c.args.frame (omega (arith, exists)) in
    let inside : number < length plan.pieces = omega (arith, high, all) in
    let d : Piece = record { from = 0; to = 0; first = 0; count = 0; at = 0 } in
    let p : Piece = get_or plan.pieces number d in
    let is : slice_get plan.pieces number ≡ Some p = slice_get-get_or plan.pieces number d inside in
    let s : IsSoundPiece plan p = c.requires.sound.pieces_are_sound number p is in
    let from = (c.requires.sound.pieces_stand_together c.args.frame number p (omega (arith, exists)) is).1 (low, high) in
    let to = s.goes_to_a_frame in
    let many = c.loop-number.invariant.as_many in
    let as_many = c.requires.as_many in
    one_more_piece plan c.frame-piece.result.piece number c.args.frame c.args.least c.args.behind.now mid c.raise.new.numbers p c.loop-number.auto.number is from
    (omega (arith, to, many, as_many)) c.loop-number.invariant
    (c.raise.ensures ∙ ap (λ (ps : List Piece). set mid (get_or ps number d).to (max (get_or mid (get_or ps number d).to 0) c.args.least)) c.as_slice.ensures)
