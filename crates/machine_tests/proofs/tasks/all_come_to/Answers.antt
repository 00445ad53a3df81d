use Rattle.std.proofs.Common.{arith}
use Rattle.machine_tests.proofs.Fitting.{of_each}
use Rattle.machine_tests.proofs.tasks.all_come_to.Goals as goal

pub comes_to-requires : goal.comes_to-requires
comes_to-requires g c = of_each _ c.args.cases.now c.loop-case.case-index _ (omega (arith, c.loop-case-test, c.loop-case)) c.requires
