use Rattle.std.proofs.Common.{◌≡◌, ℕ, ◌+◌, arith, ap, ◌∙◌, subst}
use Rattle.flow_core_laws.specs.declared.plan.FramePlan.{FramePlan}
use Rattle.flow_core.specs.Counted.{Carries}
use Rattle.flow_core_laws.specs.Plans.{frame_at}
use Rattle.flow_core.proofs.Carrying.{AreEmpty-next, Carries-more, OpensMore-trans}
use Rattle.flow_core.proofs.board.Board.deliver.Goals as goal

pub deliver_piece-requires-clause-empty : goal.deliver_piece-requires-clause-empty
deliver_piece-requires-clause-empty c =
    let low = ap (λ (f : FramePlan). f.piece) c.frame-place.ensures in
    let count = ap (λ (f : FramePlan). f.pieces) c.frame-place.ensures in
    AreEmpty-next _ _ _ _ _ _ _ _ c.requires.sound (omega arith) (omega arith) c.requires.empty c.loop-number.invariant.carried

pub loop-number-preserved : goal.loop-number-preserved
loop-number-preserved c =
    let low = ap (λ (f : FramePlan). f.piece) c.frame-place.ensures in
    record {
      counted = c.in_ok-deliver_piece.ensures.counted;
      carried = Carries-more _ _ _ _ _ _ _ _ c.requires.sound (omega arith) c.loop-number.invariant.carried c.in_ok-deliver_piece.ensures.carried;
      opens = OpensMore-trans _ _ _ c.loop-number.invariant.opens c.in_ok-deliver_piece.ensures.opens;
      same_ends = c.deliver_piece.ensures.ends ∙ c.loop-number.invariant.same_ends;
    }

pub returns-clause-carried : goal.returns-clause-carried
returns-clause-carried c =
    let low = ap (λ (f : FramePlan). f.piece) c.frame-place.ensures in
    let count = ap (λ (f : FramePlan). f.pieces) c.frame-place.ensures in
    let at_end : c.loop-number.number ≡ (frame_at c.args.plan.now c.args.frame).piece + (frame_at c.args.plan.now c.args.frame).pieces = omega arith in
    subst (λ (k : ℕ). Carries c.args.plan.now (frame_at c.args.plan.now c.args.frame).piece k c.args.root c.args.outputs.now c.args.self.now.cells.items c.loop-number.self.cells.items) at_end c.loop-number.invariant.carried
