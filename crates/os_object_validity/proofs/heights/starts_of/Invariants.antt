use Rattle.os_object_validity.specs.Tables.{IsBegun}
use Rattle.os_object_validity.proofs.heights.starts_of.Given as goal

abbrev pub invariant-loop-number : goal.invariant-loop-number
invariant-loop-number l = IsBegun l.parts l.heights l.waiting.items l.number
