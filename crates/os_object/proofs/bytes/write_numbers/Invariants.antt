use Rattle.std.proofs.Common.{◌≡◌, ◌++◌, take}
use Rattle.std.specs.List.{flat_map}
use Rattle.os_object.specs.Object.{number}
use Rattle.os_object.proofs.bytes.write_numbers.Given as goal

abbrev pub invariant-loop-written : goal.invariant-loop-written
invariant-loop-written l = l.object.items ≡ l.fn.object.items ++ flat_map number (take l.written-index l.numbers)
