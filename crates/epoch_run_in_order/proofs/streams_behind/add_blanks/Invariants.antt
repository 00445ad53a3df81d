use Rattle.std.proofs.Common.{◌≡◌, ◌-◌, ◌≤◌, ◌++◌, length, map, max}
use Rattle.std.specs.List.{range_with_len}
use Rattle.epoch_run_in_order.specs.Behind.{blank_on}
use Rattle.epoch_run_in_order.proofs.streams_behind.add_blanks.Given as goal

abbrev pub invariant-loop-stream : goal.invariant-loop-stream
invariant-loop-stream l = record {
  few : l.stream ≤ max 2 (length l.layout.writers);
  added : l.elements ≡ l.initial.elements ++ map (blank_on l.layout) (range_with_len 2 (l.stream - 2));
}
