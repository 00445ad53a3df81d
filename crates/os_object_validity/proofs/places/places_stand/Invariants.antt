use Rattle.std.proofs.Common.{◌≡◌, ℕ, ◌<◌, Some}
use Rattle.os_code.specs.declared.unit.CodeUnit.{CodeUnit}
use Rattle.os_code.specs.Parts.{unit_at}
use Rattle.os_object_validity.specs.Tables.{UnitStands}
use Rattle.os_object_validity.proofs.places.places_stand.Given as goal

abbrev pub invariant-loop-number : goal.invariant-loop-number
invariant-loop-number l = (number : ℕ) (unit : CodeUnit) → number < l.number → unit_at l.parts number ≡ Some unit → UnitStands l.parts number unit
