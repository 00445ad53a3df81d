use Rattle.std.proofs.Common.{◌≡◌, ◌+◌, ◌++◌, ◌≤◌, is_none, count_by, length, map}
use Rattle.std.specs.List.{range_with_len}
use Rattle.stream_match.specs.EpochPlan.{epoch_opening}
use Rattle.stream_match.specs.Kept.{kept_of}
use Rattle.stream_match.specs.EpochCode.{AreBefore}
use Rattle.stream_match.proofs.filling.fill_kept.Given as goal

abbrev pub invariant-loop-offset : goal.invariant-loop-offset
invariant-loop-offset l = record {
  cells : l.cells ≡ l.initial.cells ++ map (epoch_opening l.input (map kept_of l.kept) l.stretch.stream) (range_with_len l.stretch.first l.offset);
  empty : l.empty ≡ count_by is_none (map (epoch_opening l.input (map kept_of l.kept) l.stretch.stream) (range_with_len l.stretch.first l.offset));
  within : l.next ≤ length l.kept;
  before : AreBefore l.kept l.stretch.stream (l.stretch.first + l.offset) l.next;
}
