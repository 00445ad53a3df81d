use Rattle.std.proofs.Common.{◌-◌, arith, inl, inr, subst, sym}
use Rattle.std.proofs.lemmas.Bool.{cases_eq}
use Rattle.stream_match_layouts.specs.Spans.{frame_count, spans_of}
use Rattle.epoch_run_ready.specs.Newest.{marked_from}
use Rattle.epoch_run_ready.specs.Waiting.{HasWaitingSpan}
use Rattle.epoch_run_ready.proofs.newest.wait_from.Goals as goal

pub looking-preserved : goal.looking-preserved
looking-preserved c =
    let layout = c.args.layout.now in
    let marks = marked_from c.args.first (frame_count layout) in
    record {
      within = omega (arith, c.looking-test.true, c.looking.invariant.within);
      missing = c.waits_at.ensures.missing;
      wait = λ a le lt. elim (cases_eq a (c.looking.left - 1)) [
        | inl same ↦ subst (λ n. HasWaitingSpan layout marks (spans_of layout n)) (sym same) (c.waits_at.ensures.waits c.if-not-waits_at.false)
        | inr other ↦ c.looking.invariant.wait a (omega arith) lt
      ];
    }
