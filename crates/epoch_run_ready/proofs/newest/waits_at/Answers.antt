use Rattle.std.proofs.Common.{◌≡◌, ◌<◌, All, Bool, List, arith, get_or, length, rules, subst, sym, true, ℕ}
use Rattle.std.specs.Prelude.{Contains}
use Rattle.std.proofs.lemmas.List.{get_or_default}
use Rattle.stream_match.proofs.Lowering.{streams_exist}
use Rattle.stream_match_layouts.specs.Spans.{frame_count, spans_of}
use Rattle.stream_match_layouts.specs.Writers.{no_span}
use Rattle.stream_match_layouts.specs.declared.span.Span.{Span}
use Rattle.epoch_run_ready.specs.Newest.{marked_from}
use Rattle.epoch_run_ready.specs.Waiting.{HasWaitingSpan}
use Rattle.epoch_run_ready.proofs.AllWaiting.{has_mark}
use Rattle.epoch_run_ready.proofs.FirstMissing.{missing_lowered, lowered_one}
use Rattle.epoch_run_ready.proofs.newest.waits_at.Goals as goal
use Rattle.epoch_run_ready.proofs.newest.waits_at.Goals.{then-waits_or_lowers, else-waits_or_lowers}

pub waits_or_lowers-requires : goal.waits_or_lowers-requires
waits_or_lowers-requires c =
    let layout = c.args.layout.now in
    let exist = subst (λ (spans : List Span). All (λ (s : Span). s.stream < length layout.writers) spans) (sym c.spans_of-spans.ensures)
    (streams_exist layout c.requires.layout c.args.activation c.requires.exists) in
    omega (arith, exist c.loop-span.span-index no_span c.loop-span-test.true, c.loop-span.invariant.missing.one_each)

pub loop-span-preserved : goal.loop-span-preserved
loop-span-preserved c =
    let layout = c.args.layout.now in
    let a : ℕ = c.args.activation in
    let first : ℕ = c.args.first in
    let count : ℕ = frame_count layout in
    let marks : List Bool = marked_from first count in
    let i = c.loop-span.span-index in
    let spans = c.spans_of-spans.result.now in
    let span : Span = get_or spans i no_span in
    let is_one : Contains spans span = (i, c.loop-span-test.true, get_or_default spans i span no_span c.loop-span-test.true) in
    let found : c.waits_or_lowers.result ≡ true → HasWaitingSpan layout marks (spans_of layout a) = λ h.
    subst (HasWaitingSpan layout marks) c.spans_of-spans.ensures
    (record { span = span; is_one = is_one; waits_for = c.waits_or_lowers.ensures.waits h layout marks c.loop-span.invariant.missing }) in
    record {
      missing = missing_lowered layout c.requires.layout marks a spans c.loop-span.missing c.waits_or_lowers.new.missing c.requires.exists c.spans_of-spans.ensures
          (has_mark first count a c.requires.is_new c.requires.exists) c.loop-span.invariant.missing c.waits_or_lowers.ensures.length
          (λ stream. lowered_one spans stream (get_or c.loop-span.missing stream 0) (get_or c.waits_or_lowers.new.missing stream 0) span is_one (c.waits_or_lowers.ensures.lowered stream));
      waits = elim c.if-waits_or_lowers.branch [
        | then-waits_or_lowers w ↦ (λ m. found (search rules))
        | else-waits_or_lowers w ↦ (λ m. c.loop-span.invariant.waits (search rules))
      ];
    }
