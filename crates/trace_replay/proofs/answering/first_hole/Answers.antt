use Rattle.std.proofs.Common.{◌≡◌, ℕ, Option, Some, None, false, ap, ◌∙◌, arith}
use Rattle.std.specs.Prelude.{IsSome, is_none}
use Rattle.flow_core_laws.specs.declared.elem.Elem.{Elem}
use Rattle.flow_core_laws.specs.declared.plan.FramePlan.{FramePlan}
use Rattle.flow_core_laws.specs.Plans.{frame_at, held_at}
use Rattle.flow_core_laws.proofs.Counting.{passing-none}
use Rattle.trace_replay.proofs.answering.first_hole.Goals as goal

holds : (o : Option Elem) → IsSome o → is_none o ≡ false
holds None h = absurd (cc)
holds (Some e) h = cc

pub unreachable-requires : goal.unreachable-requires
unreachable-requires c =
    let place = frame_at c.args.plan.now c.args.frame in
    let first : c.frame-place.result.cell ≡ place.cell = ap (λ (p : FramePlan). p.cell) c.frame-place.ensures in
    let count : c.frame-place.result.inputs ≡ place.inputs = ap (λ (p : FramePlan). p.inputs) c.frame-place.ensures in
    let past = c.loop-cell-test.false in
    c.requires.misses (c.requires.counted.counts c.args.frame c.requires.exists ∙ passing-none (λ (cell : ℕ). is_none (held_at c.args.board.now.cells.items cell)) place.cell place.inputs (λ k low high. holds (held_at c.args.board.now.cells.items k) (c.loop-cell.invariant k low (omega (arith, first, count, past, high)))))
