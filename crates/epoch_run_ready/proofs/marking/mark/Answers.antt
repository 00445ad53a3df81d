use Rattle.std.proofs.Common.{◌<◌, ◌^◌, All, List, arith, false, get_or, length, refl, set, subst, sym, true, ℕ}
use Rattle.std.proofs.lemmas.List.{get_or-set_same}
use Rattle.std.proofs.lemmas.List.Elements.{All-get_or}
use Rattle.std.proofs.lemmas.Option.{slice_get-get_or}
use Rattle.flow_core_epochs.proofs.Carried.{has_all}
use Rattle.stream_match.proofs.Behind.{span_small}
use Rattle.stream_match.proofs.Lowering.{streams_exist}
use Rattle.stream_match_layouts.specs.Spans.{frame_count, spans_of}
use Rattle.stream_match_layouts.specs.declared.span.Span.{Span}
use Rattle.epoch_run_ready.specs.Waiting.{HasWaitingSpan}
use Rattle.epoch_run_ready.proofs.Marks.{mark_more, mark_same, missing_more}
use Rattle.epoch_run_ready.proofs.FirstMissing.{missing_lowered}
use Rattle.epoch_run_ready.proofs.marking.mark.Goals as goal

pub spans_wait-requires-clause-exist : goal.spans_wait-requires-clause-exist
spans_wait-requires-clause-exist c =
    let layout = c.args.layout.now in
    let a : ℕ = get_or c.args.readers.now c.args.number 0 in
    let lt : a < frame_count layout = All-get_or (λ b. b < frame_count layout) c.args.readers.now c.args.number 0 c.requires.exists c.requires.readers in
    subst (λ (spans : List Span). All (λ (s : Span). s.stream < length layout.writers) spans) (sym c.spans_of-spans.ensures)
    (streams_exist layout c.requires.layout a lt)

pub spans_wait-requires-clause-small : goal.spans_wait-requires-clause-small
spans_wait-requires-clause-small c =
    let layout = c.args.layout.now in
    let a : ℕ = get_or c.args.readers.now c.args.number 0 in
    let lt : a < frame_count layout = All-get_or (λ b. b < frame_count layout) c.args.readers.now c.args.number 0 c.requires.exists c.requires.readers in
    subst (λ (spans : List Span). All (λ (s : Span). s.first < 2 ^ 62) spans) (sym c.spans_of-spans.ensures)
    (has_all (λ (s : Span). s.first < 2 ^ 62) (spans_of layout a) (λ s h. span_small layout c.requires.layout a s lt h))

pub lower-requires : goal.lower-requires
lower-requires c =
    let layout = c.args.layout.now in
    let a : ℕ = get_or c.args.readers.now c.args.number 0 in
    let lt : a < frame_count layout = All-get_or (λ b. b < frame_count layout) c.args.readers.now c.args.number 0 c.requires.exists c.requires.readers in
    subst (λ (n : ℕ). All (λ (s : Span). s.stream < n) c.spans_of-spans.result.now) (sym c.requires.missing.one_each)
    (subst (λ (spans : List Span). All (λ (s : Span). s.stream < length layout.writers) spans) (sym c.spans_of-spans.ensures)
    (streams_exist layout c.requires.layout a lt))

pub returns-then-spans_wait : goal.returns-then-spans_wait
returns-then-spans_wait c =
    let layout = c.args.layout.now in
    let waits = c.args.waits.now in
    let a : ℕ = get_or c.args.readers.now c.args.number 0 in
    let lt : a < frame_count layout = All-get_or (λ b. b < frame_count layout) c.args.readers.now c.args.number 0 c.requires.exists c.requires.readers in
    let within : a < length waits = omega (arith, c.requires.one_each, lt) in
    record {
      marked = mark_more layout c.args.readers.now waits c.args.number a within (slice_get-get_or c.args.readers.now c.args.number 0 c.requires.exists)
          (subst (HasWaitingSpan layout waits) c.spans_of-spans.ensures (c.spans_wait.ensures c.if-spans_wait.true));
      missing = missing_lowered layout c.requires.layout (set waits a true) a c.spans_of-spans.result.now c.args.missing.now c.lower.new.missing lt c.spans_of-spans.ensures
          (get_or-set_same waits a true false within) (missing_more layout waits a c.args.missing.now within c.requires.missing) c.lower.ensures.length c.lower.ensures.lowered;
      marks = refl;
    }

pub returns-clause-marked : goal.returns-clause-marked
returns-clause-marked c = mark_same c.args.layout.now c.args.readers.now c.args.waits.now
