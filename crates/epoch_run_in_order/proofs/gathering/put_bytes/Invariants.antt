use Rattle.std.proofs.Common.{◌≡◌, ◌+◌, ◌++◌, length, map, pos, take}
use Rattle.epoch_run_in_order.proofs.gathering.put_bytes.Given as goal

-- the bytes so far stand in their places
abbrev pub invariant-loop-number : goal.invariant-loop-number
invariant-loop-number l = record {
  room : length l.places ≡ length l.initial.places;
  put : take (l.first + l.number) l.places ≡ take l.first l.initial.places ++ map pos (take l.number l.bytes);
}
