use Rattle.std.proofs.Common.{◌≡◌, ◌++◌, length}
use Rattle.std.specs.List.{flat_map}
use Rattle.os_object.specs.Object.{unit_numbers}
use Rattle.os_object.proofs.reading_lists.read_units.Given as goal

abbrev pub invariant-loop : goal.invariant-loop
invariant-loop l = record {
  parts : l.initial.rest ≡ flat_map unit_numbers l.units ++ l.rest;
  counted : length l.units ≡ l.counter;
}
