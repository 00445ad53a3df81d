use Rattle.std.proofs.Common.{◌∙◌, Bool, List, ap, subst, sym, ℕ}
use Rattle.stream_match_layouts.specs.Spans.{frame_count, spans_of}
use Rattle.epoch_run_ready.specs.Newest.{marked_from}
use Rattle.epoch_run_ready.specs.Waiting.{AreMissing, HasWaitingSpan}
use Rattle.epoch_run_ready.proofs.circles.wait_around.Goals as goal

pub lower_from-requires-clause-missing : goal.lower_from-requires-clause-missing
lower_from-requires-clause-missing c =
    let layout = c.args.layout.now in
    let marks : List Bool = marked_from c.readers_before-from.result (frame_count layout) in
    subst (λ (xs : List ℕ). AreMissing layout marks xs) (sym c.as_mut_slice.ensures.value) (c.in_ok-missing.ensures marks)

pub returns : goal.returns
returns c = λ all.
    let layout = c.args.layout.now in
    record {
      from = c.readers_before-from.result;
      few = c.readers_before-from.ensures.few;
      are_readers = c.readers_before-from.ensures.open;
      wait = λ a le lt. subst (λ (marks : List Bool). HasWaitingSpan layout marks (spans_of layout a)) (c.as_slice.ensures.value ∙ c.in_ok-waits.ensures ∙ ap (λ (n : ℕ). marked_from c.readers_before-from.result n) c.frames-count.ensures) (c.each_waits-wait.ensures all a le lt);
    }
