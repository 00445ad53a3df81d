use Rattle.std.proofs.Common.{◌≡◌, ◌++◌, length}
use Rattle.std.specs.List.{flat_map}
use Rattle.os_object.specs.Object.{item_numbers}
use Rattle.os_object.proofs.reading_lists.read_items.Given as goal

abbrev pub invariant-loop : goal.invariant-loop
invariant-loop l = record {
  parts : l.initial.rest ≡ flat_map item_numbers l.items ++ l.rest;
  counted : length l.items ≡ l.counter;
}
