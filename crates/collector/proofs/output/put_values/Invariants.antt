use Rattle.std.proofs.Common.{◌≡◌, ◌++◌, length, map, drop, take}
use Rattle.collector.specs.Written.{byte_of, complete_prefix}
use Rattle.collector.proofs.output.put_values.Given as goal

-- the bytes so far, with those of the elements that are left
abbrev pub invariant-loop-number : goal.invariant-loop-number
invariant-loop-number l = record {
  room : length l.bytes ≡ length l.output;
  put : take l.number l.bytes ++ map byte_of (complete_prefix (drop l.number l.output)) ≡ map byte_of (complete_prefix l.output);
}
