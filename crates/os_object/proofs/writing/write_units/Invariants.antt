use Rattle.std.proofs.Common.{◌≡◌, ◌∷◌, ◌++◌, length, take}
use Rattle.std.specs.List.{flat_map}
use Rattle.os_object.specs.Object.{number, unit_numbers}
use Rattle.os_object.proofs.writing.write_units.Given as goal

abbrev pub invariant-loop-unit : goal.invariant-loop-unit
invariant-loop-unit l = l.object.items ≡ l.fn.object.items ++ flat_map number (length l.units ∷ flat_map unit_numbers (take l.unit-index l.units))
