use Rattle.std.proofs.Common.{◌<◌, ◌∙◌, All, List, arith, length, subst, sym, ℕ}
use Rattle.stream_match.proofs.Lowering.{streams_exist}
use Rattle.stream_match_layouts.specs.Spans.{frame_count}
use Rattle.stream_match_layouts.specs.declared.span.Span.{Span}
use Rattle.epoch_run_ready.proofs.unreached.lower_new.Goals as goal

pub lower-requires : goal.lower-requires
lower-requires c =
    let layout = c.args.layout.now in
    let a : ℕ = c.loop-activation.activation in
    let lt : a < frame_count layout = omega (arith, c.loop-activation-test.true, c.frames-activation-end.ensures) in
    subst (λ (n : ℕ). All (λ (s : Span). s.stream < n) c.spans_of.result.now) (sym (c.loop-activation.invariant ∙ c.requires.low))
    (subst (λ (spans : List Span). All (λ (s : Span). s.stream < length layout.writers) spans) (sym c.spans_of.ensures) (streams_exist layout c.requires.layout a lt))
