use Rattle.std.proofs.Common.{◌<◌, ◌^◌, All, List, length, subst, sym, ℕ}
use Rattle.flow_core_epochs.proofs.Carried.{has_all}
use Rattle.stream_match.proofs.Behind.{span_small}
use Rattle.stream_match.proofs.Lowering.{streams_exist}
use Rattle.stream_match_layouts.specs.Spans.{spans_of}
use Rattle.stream_match_layouts.specs.declared.span.Span.{Span}
use Rattle.epoch_run_ready.proofs.unreached.is_reached.Goals as goal

pub read_behind-requires-clause-exist : goal.read_behind-requires-clause-exist
read_behind-requires-clause-exist c =
    let layout = c.args.layout.now in
    subst (λ (n : ℕ). All (λ (s : Span). s.stream < n) c.spans_of-spans.result.now) (sym c.requires.low)
    (subst (λ (spans : List Span). All (λ (s : Span). s.stream < length layout.writers) spans) (sym c.spans_of-spans.ensures)
    (streams_exist layout c.requires.layout c.args.activation c.requires.exists))

pub read_behind-requires-clause-small : goal.read_behind-requires-clause-small
read_behind-requires-clause-small c =
    let layout = c.args.layout.now in
    subst (λ (spans : List Span). All (λ (s : Span). s.first < 2 ^ 62) spans) (sym c.spans_of-spans.ensures)
    (has_all (λ (s : Span). s.first < 2 ^ 62) (spans_of layout c.args.activation) (λ s h. span_small layout c.requires.layout c.args.activation s c.requires.exists h))

pub lower-requires : goal.lower-requires
lower-requires c =
    let layout = c.args.layout.now in
    subst (λ (n : ℕ). All (λ (s : Span). s.stream < n) c.spans_of-spans.result.now) (sym c.requires.low)
    (subst (λ (spans : List Span). All (λ (s : Span). s.stream < length layout.writers) spans) (sym c.spans_of-spans.ensures)
    (streams_exist layout c.requires.layout c.args.activation c.requires.exists))
