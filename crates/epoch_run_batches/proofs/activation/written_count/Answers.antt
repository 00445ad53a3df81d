use Rattle.std.proofs.Common.{arith}
use Rattle.std.proofs.lemmas.Grind.{common_steps}
use Rattle.stream_match_layouts.specs.Spans.{write_count}
use Rattle.stream_match_layouts.specs.Writers.{no_span}
use Rattle.stream_match_layouts.proofs.Tallies.{write-le, tally_fits}
use Rattle.epoch_run_batches.proofs.activation.written_count.Goals as goal

pub overflow_add-written : goal.overflow_add-written
overflow_add-written c =
    let fits = tally_fits write_count write-le c.args.spans.now c.loop-span.span-index no_span c.loop-span-test.true in
    grind (arith, common_steps, fits, c.loop-span.invariant)
