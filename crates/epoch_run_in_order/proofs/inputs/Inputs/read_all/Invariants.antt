use Rattle.std.proofs.Common.{◌≡◌, sum_by, take}
use Rattle.stream_match_layouts.specs.Spans.{write_count}
use Rattle.epoch_run_in_order.specs.Reading.{AreRead, covered_by}
use Rattle.epoch_run_in_order.proofs.inputs.Inputs.read_all.Given as goal

abbrev pub invariant-loop-span : goal.invariant-loop-span
invariant-loop-span l = record {
  read : AreRead (covered_by l.streams l.input (take l.span-index l.spans)) l.self;
  written : l.written ≡ sum_by write_count (take l.span-index l.spans);
}
