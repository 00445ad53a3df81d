use Rattle.std.proofs.Common.{◌-◌, ◌<◌, ◌^◌, All, List, arith, get_or, length, subst, sym, ℕ}
use Rattle.std.proofs.lemmas.List.Elements.{All-get_or}
use Rattle.flow_core_epochs.proofs.Carried.{has_all}
use Rattle.stream_match.proofs.Behind.{span_small}
use Rattle.stream_match.proofs.Lowering.{streams_exist}
use Rattle.stream_match_layouts.specs.Spans.{frame_count, spans_of}
use Rattle.stream_match_layouts.specs.declared.span.Span.{Span}
use Rattle.epoch_run_ready.proofs.marking.up_to_last_behind.Goals as goal

pub read_behind-requires-clause-exist : goal.read_behind-requires-clause-exist
read_behind-requires-clause-exist c =
    let layout = c.args.layout.now in
    let last = c.readers.left - 1 in
    let a : ℕ = get_or c.args.readers.now last 0 in
    let lt : a < frame_count layout = All-get_or (λ b. b < frame_count layout) c.args.readers.now last 0 (omega (arith, c.readers-test.true, c.readers.invariant)) c.requires.readers in
    subst (λ (n : ℕ). All (λ (s : Span). s.stream < n) c.spans_of-spans.result.now) (sym c.requires.missing)
    (subst (λ (spans : List Span). All (λ (s : Span). s.stream < length layout.writers) spans) (sym c.spans_of-spans.ensures)
    (streams_exist layout c.requires.layout a lt))

pub read_behind-requires-clause-small : goal.read_behind-requires-clause-small
read_behind-requires-clause-small c =
    let layout = c.args.layout.now in
    let last = c.readers.left - 1 in
    let a : ℕ = get_or c.args.readers.now last 0 in
    let lt : a < frame_count layout = All-get_or (λ b. b < frame_count layout) c.args.readers.now last 0 (omega (arith, c.readers-test.true, c.readers.invariant)) c.requires.readers in
    subst (λ (spans : List Span). All (λ (s : Span). s.first < 2 ^ 62) spans) (sym c.spans_of-spans.ensures)
    (has_all (λ (s : Span). s.first < 2 ^ 62) (spans_of layout a) (λ s h. span_small layout c.requires.layout a s lt h))
