use Rattle.std.proofs.Common.{◌≡◌, ◌++◌, length, map, take}
use Rattle.std.specs.Prelude.{filter}
use Rattle.std.specs.List.{flat_map}
use Rattle.flow_core_epochs.specs.Epoch.{elements_at}
use Rattle.stream_match.specs.Kept.{kept_of}
use Rattle.stream_match.specs.Stretch.{stretch_places}
use Rattle.epoch_run_carrying.specs.Carrying.{is_behind}
use Rattle.epoch_run_carrying.proofs.carrying.carry_left.Given as goal

abbrev pub invariant-loop-leaving : goal.invariant-loop-leaving
invariant-loop-leaving l = record {
  place : l.at ≡ length (flat_map stretch_places (take l.leaving-index l.leaves));
  carried : map kept_of l.carried.items ≡ map kept_of l.initial.carried.items ++ filter (is_behind l.cursors) (elements_at (flat_map stretch_places (take l.leaving-index l.leaves)) (take l.at l.values));
}
