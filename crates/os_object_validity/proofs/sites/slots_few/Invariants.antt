use Rattle.std.proofs.Common.{◌≡◌, ◌+◌, take, sum_by}
use Rattle.os_code.specs.declared.unit.CodeUnit.{CodeUnit}
use Rattle.os_object_validity.proofs.sites.slots_few.Given as goal

abbrev pub invariant-loop-unit : goal.invariant-loop-unit
invariant-loop-unit l = sum_by (λ (unit : CodeUnit). unit.slots) (take l.unit-index l.units) + l.left ≡ 2097152
