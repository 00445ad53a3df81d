use Rattle.std.proofs.Common.{◌-◌, ◌<◌, ◌^◌, All, List, arith, length, subst, sym, ℕ}
use Rattle.flow_core_epochs.proofs.Carried.{has_all}
use Rattle.stream_match.proofs.Behind.{span_small}
use Rattle.stream_match.proofs.Lowering.{streams_exist}
use Rattle.stream_match_layouts.specs.Spans.{frame_count, spans_of}
use Rattle.stream_match_layouts.specs.declared.span.Span.{Span}
use Rattle.epoch_run_ready.proofs.newest.last_reads_unwritten.Goals as goal

pub reads_unwritten-requires-clause-exist : goal.reads_unwritten-requires-clause-exist
reads_unwritten-requires-clause-exist c =
    let layout = c.args.layout.now in
    let a : ℕ = c.frames-count.result - 1 in
    let lt : a < frame_count layout = omega (arith, c.frames-count.ensures, c.if-count-eq0.false) in
    subst (λ (spans : List Span). All (λ (s : Span). s.stream < length layout.writers) spans) (sym c.spans_of.ensures) (streams_exist layout c.requires a lt)

pub reads_unwritten-requires-clause-small : goal.reads_unwritten-requires-clause-small
reads_unwritten-requires-clause-small c =
    let layout = c.args.layout.now in
    let a : ℕ = c.frames-count.result - 1 in
    let lt : a < frame_count layout = omega (arith, c.frames-count.ensures, c.if-count-eq0.false) in
    subst (λ (spans : List Span). All (λ (s : Span). s.first < 2 ^ 62) spans) (sym c.spans_of.ensures)
    (has_all (λ (s : Span). s.first < 2 ^ 62) (spans_of layout a) (λ s h. span_small layout c.requires a s lt h))
