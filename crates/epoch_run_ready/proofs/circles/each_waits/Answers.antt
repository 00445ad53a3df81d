use Rattle.std.proofs.Common.{◌^◌, ◌<◌, All, List, arith, length, subst, sym, ℕ}
use Rattle.flow_core_epochs.proofs.Carried.{has_all}
use Rattle.stream_match.proofs.Behind.{span_small}
use Rattle.stream_match.proofs.Lowering.{streams_exist}
use Rattle.stream_match_layouts.specs.Spans.{frame_count, spans_of}
use Rattle.stream_match_layouts.specs.declared.span.Span.{Span}
use Rattle.epoch_run_ready.proofs.circles.each_waits.Goals as goal

pub spans_wait-requires-clause-exist : goal.spans_wait-requires-clause-exist
spans_wait-requires-clause-exist c =
    let layout = c.args.layout.now in
    let a : ℕ = c.loop-activation.activation in
    let lt : a < frame_count layout = omega (arith, c.loop-activation-test.true, c.frames-activation-end.ensures) in
    subst (λ (spans : List Span). All (λ (s : Span). s.stream < length layout.writers) spans) (sym c.spans_of.ensures) (streams_exist layout c.requires.layout a lt)

pub spans_wait-requires-clause-small : goal.spans_wait-requires-clause-small
spans_wait-requires-clause-small c =
    let layout = c.args.layout.now in
    let a : ℕ = c.loop-activation.activation in
    let lt : a < frame_count layout = omega (arith, c.loop-activation-test.true, c.frames-activation-end.ensures) in
    subst (λ (spans : List Span). All (λ (s : Span). s.first < 2 ^ 62) spans) (sym c.spans_of.ensures)
    (has_all (λ (s : Span). s.first < 2 ^ 62) (spans_of layout a) (λ s h. span_small layout c.requires.layout a s lt h))
