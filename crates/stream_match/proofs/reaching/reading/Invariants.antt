use Rattle.std.proofs.Common.{◌≡◌}
use Rattle.std.specs.List.{flat_map, range_with_len}
use Rattle.stream_match.specs.EpochCode.{reads_before, read_part, with_positions}
use Rattle.stream_match.proofs.reaching.reading.Given as goal

abbrev pub invariant-loop-number : goal.invariant-loop-number
invariant-loop-number l = record {
  stretches : l.reading.stretches ≡ with_positions (flat_map (read_part l.layout l.frames) (range_with_len 0 l.number));
  next : l.reading.next ≡ reads_before l.layout l.frames l.number;
}
