use Rattle.os_object_validity.specs.Tables.{IsApart}
use Rattle.os_object_validity.proofs.regions.starts_of.Given as goal

abbrev pub invariant-loop-unit : goal.invariant-loop-unit
invariant-loop-unit l = IsApart l.parts l.marks.items l.unit-index
