use Rattle.std.proofs.Common.{get_or, rules}
use Rattle.std.proofs.lemmas.List.{get_or_default}
use Rattle.std.specs.Prelude.{slice_index}
use Rattle.stream_match_layouts.specs.Writers.{no_span}
use Rattle.stream_match_layouts.specs.declared.span.Span.{Span}
use Rattle.epoch_run_ready.proofs.FirstMissing.{lowered_more}
use Rattle.epoch_run_ready.proofs.missing.lower.Goals as goal

pub loop-span-preserved : goal.loop-span-preserved
loop-span-preserved c = record {
  length = search rules;
  lowered = λ stream.
      let i = c.loop-span.span-index in
      let spans = c.args.spans.now in
      let span : Span = get_or spans i no_span in
      lowered_more spans stream (slice_index c.args.missing.now stream) (slice_index c.loop-span.missing stream) (slice_index c.lower_one.new.missing stream) span
      (i, c.loop-span-test.true, get_or_default spans i span no_span c.loop-span-test.true) (c.loop-span.invariant.lowered stream) (c.lower_one.ensures.lowered stream);
}
