use Rattle.std.proofs.Common.{◌≡◌, sum_by, take}
use Rattle.stream_match_layouts.specs.Spans.{read_count, write_count}
use Rattle.stream_match.proofs.frames.tally_of.Given as goal

abbrev pub invariant-loop-span : goal.invariant-loop-span
invariant-loop-span l = record {
  inputs : l.inputs ≡ sum_by read_count (take l.span-index l.spans);
  outputs : l.outputs ≡ sum_by write_count (take l.span-index l.spans);
}
