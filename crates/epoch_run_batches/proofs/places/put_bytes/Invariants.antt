use Rattle.std.proofs.Common.{◌≡◌, ◌+◌, length, map, take}
use Rattle.epoch_run_batches.specs.Reads.{ArePut, byte_element}
use Rattle.epoch_run_batches.proofs.places.put_bytes.Given as goal

-- the bytes so far stand in their places
abbrev pub invariant-loop-number : goal.invariant-loop-number
invariant-loop-number l = record {
  room : length l.places ≡ length l.initial.places;
  put : ArePut l.first l.initial.places (map byte_element (take l.number l.bytes)) (l.first + l.number) l.places;
}
