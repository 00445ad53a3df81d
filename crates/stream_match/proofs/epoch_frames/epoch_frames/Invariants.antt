use Rattle.std.proofs.Common.{◌≡◌, length, map}
use Rattle.std.specs.List.{range_with_len}
use Rattle.stream_match.specs.Stretch.{by_frame}
use Rattle.stream_match.specs.EpochCode.{epoch_frame, reads_before}
use Rattle.stream_match.proofs.epoch_frames.epoch_frames.Given as goal

abbrev pub invariant-loop-number : goal.invariant-loop-number
invariant-loop-number l = record {
  plans : l.plans ≡ map (epoch_frame l.layout l.frames l.pieces l.waits) (range_with_len 0 l.number);
  cell : l.cell ≡ reads_before l.layout l.frames l.number;
  piece : l.piece ≡ length (by_frame l.pieces l.number);
}
