-- The scratch serves again.
use Rattle.os_code.specs.Codes.{parts_of}
use Rattle.task_vm.specs.Space.{IsMadeFor}
use Rattle.compiler_tests.proofs.beside.bodies_within.Given as goal

abbrev pub invariant-loop-activation : goal.invariant-loop-activation
invariant-loop-activation g l = IsMadeFor (parts_of l.compiled.code) l.scratch
