use Rattle.std.proofs.Common.{◌≡◌, ◌++◌, map, take}
use Rattle.flow_core_epochs.specs.Epoch.{elements_at}
use Rattle.flow_core_laws.specs.Place.{places_from}
use Rattle.stream_match.specs.Kept.{kept_of}
use Rattle.epoch_run_carrying.proofs.carrying.add_elements.Given as goal

abbrev pub invariant-loop-number : goal.invariant-loop-number
invariant-loop-number l = map kept_of l.carried.items ≡ map kept_of l.initial.carried.items ++ elements_at (places_from l.stream l.first l.number) (take l.number l.values)
