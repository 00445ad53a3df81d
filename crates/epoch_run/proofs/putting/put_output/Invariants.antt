use Rattle.std.proofs.Common.{◌≡◌, ◌≤◌, drop, length, take}
use Rattle.std.specs.List.{flat_map}
use Rattle.flow_core_epochs.specs.Epoch.{output_over}
use Rattle.stream_match.specs.Stretch.{stretch_places}
use Rattle.epoch_run.proofs.putting.put_output.Given as goal

abbrev pub invariant-putting : goal.invariant-putting
invariant-putting l = record {
  few : l.left ≤ length l.leaves;
  place : l.end ≡ length (flat_map stretch_places (take l.left l.leaves));
  put : l.output ≡ output_over l.initial.output (flat_map stretch_places (drop l.left l.leaves)) (drop l.end l.values) (length l.initial.output);
}

abbrev pub decreases-putting : goal.decreases-putting
decreases-putting l = l.left
