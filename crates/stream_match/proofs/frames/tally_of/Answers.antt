use Rattle.std.proofs.Common.{arith}
use Rattle.stream_match_layouts.specs.Spans.{read_count, write_count}
use Rattle.stream_match_layouts.specs.Writers.{no_span}
use Rattle.stream_match_layouts.proofs.Tallies.{read-le, write-le, tally_fits}
use Rattle.stream_match.proofs.frames.tally_of.Goals as goal

pub overflow_add-inputs : goal.overflow_add-inputs
overflow_add-inputs c = omega (arith, tally_fits read_count read-le c.args.spans.now c.loop-span.span-index no_span (omega arith), c.reads-inputs.ensures, c.loop-span.invariant.inputs)

pub overflow_add-outputs : goal.overflow_add-outputs
overflow_add-outputs c = omega (arith, tally_fits write_count write-le c.args.spans.now c.loop-span.span-index no_span (omega arith), c.writes-outputs.ensures, c.loop-span.invariant.outputs)
