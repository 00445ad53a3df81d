use Rattle.std.proofs.lemmas.Option.{slice_get-get_or}
use Rattle.stream_match_layouts.specs.Writers.{no_span}
use Rattle.epoch_run_batches.proofs.streams.Streams.write_all.Goals as goal

pub write-requires-clause-outputs : goal.write-requires-clause-outputs
write-requires-clause-outputs c = c.requires.outputs c.loop-span.span-index _ (slice_get-get_or c.args.spans.now c.loop-span.span-index no_span c.loop-span-test.true)

pub loop-span-preserved : goal.loop-span-preserved
loop-span-preserved c = record {
  as_many = c.in_ok-write.ensures.as_many;
  meant = λ run written holds. c.in_ok-write.ensures.meant run
      (written c.loop-span.span-index _ (slice_get-get_or c.args.spans.now c.loop-span.span-index no_span c.loop-span-test.true))
      (c.loop-span.invariant.meant run written holds);
}
