use Rattle.std.proofs.Common.{◌≡◌, ◌-◌, ◌≤◌, [], map, max}
use Rattle.std.specs.List.{flat_map, range_with_len}
use Rattle.std.specs.Prelude.{slice_index, slice_index_or}
use Rattle.epoch_run_in_order_laws.specs.InOrder.{kept_on}
use Rattle.stream_match.specs.Kept.{kept_of}
use Rattle.epoch_run_in_order.proofs.holding.keep_all.Given as goal

abbrev pub invariant-loop-stream : goal.invariant-loop-stream
invariant-loop-stream l = record {
  few : l.stream ≤ max 2 l.count;
  kept : map kept_of l.kept.items ≡ flat_map (λ stream. kept_on stream (slice_index l.streams.firsts stream) (slice_index_or l.streams.elements stream [])) (range_with_len 2 (l.stream - 2));
}
