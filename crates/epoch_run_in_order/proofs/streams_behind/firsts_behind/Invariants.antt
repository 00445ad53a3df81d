use Rattle.std.proofs.Common.{◌≡◌, map}
use Rattle.std.specs.List.{range_with_len}
use Rattle.epoch_run_in_order.specs.Behind.{first_on}
use Rattle.epoch_run_in_order.proofs.streams_behind.firsts_behind.Given as goal

abbrev pub invariant-loop-stream : goal.invariant-loop-stream
invariant-loop-stream l = l.firsts ≡ map (first_on l.layout) (range_with_len 0 l.stream)
