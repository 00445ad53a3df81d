use Rattle.std.proofs.Common.{◌≡◌, ◌+◌, length, take}
use Rattle.epoch_run_batches.specs.Reads.{ArePut}
use Rattle.epoch_run_batches.proofs.places.put_values.Given as goal

-- the values so far stand in their places
abbrev pub invariant-loop-number : goal.invariant-loop-number
invariant-loop-number l = record {
  room : length l.places ≡ length l.initial.places;
  put : ArePut l.first l.initial.places (take l.number l.elements) (l.first + l.number) l.places;
}
