use Rattle.os_object_validity.proofs.Starting.{AreFirstEnds}
use Rattle.os_object_validity.proofs.regions.ends_of.Given as goal

abbrev pub invariant-loop-unit : goal.invariant-loop-unit
invariant-loop-unit l = AreFirstEnds l.parts l.ends.items l.unit-index
