use Rattle.std.proofs.Common.{◌≡◌, ◌++◌, length}
use Rattle.std.specs.List.{flat_map}
use Rattle.os_object.specs.Object.{slot_numbers}
use Rattle.os_object.proofs.reading_lists.read_slots.Given as goal

abbrev pub invariant-loop : goal.invariant-loop
invariant-loop l = record {
  parts : l.initial.rest ≡ flat_map slot_numbers l.slots ++ l.rest;
  counted : length l.slots ≡ l.counter;
}
