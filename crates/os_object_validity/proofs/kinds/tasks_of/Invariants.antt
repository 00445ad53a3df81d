use Rattle.os_object_validity.specs.Tables.{IsTold}
use Rattle.os_object_validity.proofs.kinds.tasks_of.Given as goal

abbrev pub invariant-loop-number : goal.invariant-loop-number
invariant-loop-number l = IsTold l.parts l.tasks.items l.number
