use Rattle.std.proofs.Common.{◌≡◌, ◌++◌, length}
use Rattle.std.specs.List.{flat_map}
use Rattle.os_object.specs.Object.{site_numbers}
use Rattle.os_object.proofs.reading_lists.read_sites.Given as goal

abbrev pub invariant-loop : goal.invariant-loop
invariant-loop l = record {
  parts : l.initial.rest ≡ flat_map site_numbers l.sites ++ l.rest;
  counted : length l.sites ≡ l.counter;
}
