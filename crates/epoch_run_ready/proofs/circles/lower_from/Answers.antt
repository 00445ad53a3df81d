use Rattle.std.proofs.Common.{◌<◌, All, List, arith, length, subst, sym, ℕ}
use Rattle.stream_match.proofs.Lowering.{streams_exist}
use Rattle.stream_match_layouts.specs.Spans.{frame_count}
use Rattle.stream_match_layouts.specs.declared.span.Span.{Span}
use Rattle.epoch_run_ready.specs.Newest.{marked_from}
use Rattle.epoch_run_ready.proofs.AllWaiting.{has_mark}
use Rattle.epoch_run_ready.proofs.FirstMissing.{missing_lowered}
use Rattle.epoch_run_ready.proofs.circles.lower_from.Goals as goal

pub lower-requires : goal.lower-requires
lower-requires c =
    let layout = c.args.layout.now in
    let a : ℕ = c.loop-activation.activation in
    let lt : a < frame_count layout = omega (arith, c.loop-activation-test.true, c.frames-activation-end.ensures) in
    subst (λ (n : ℕ). All (λ (s : Span). s.stream < n) c.spans_of.result.now) (sym c.loop-activation.invariant.one_each)
    (subst (λ (spans : List Span). All (λ (s : Span). s.stream < length layout.writers) spans) (sym c.spans_of.ensures) (streams_exist layout c.requires.layout a lt))

pub loop-activation-preserved : goal.loop-activation-preserved
loop-activation-preserved c =
    let layout = c.args.layout.now in
    let a : ℕ = c.loop-activation.activation in
    let count : ℕ = frame_count layout in
    let lt : a < count = omega (arith, c.loop-activation-test.true, c.frames-activation-end.ensures) in
    missing_lowered layout c.requires.layout (marked_from c.args.from count) a c.spans_of.result.now c.loop-activation.missing c.lower.new.missing lt c.spans_of.ensures
    (has_mark c.args.from count a (omega (arith, c.loop-activation.auto.activation)) lt) c.loop-activation.invariant c.lower.ensures.length c.lower.ensures.lowered
