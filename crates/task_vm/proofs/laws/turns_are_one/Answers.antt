use Rattle.task_vm.proofs.Spending.{run-takes-one, task-takes-one}
use Rattle.task_vm.proofs.laws.turns_are_one.Goals as goal

pub returns : goal.returns
returns c = record { run = run-takes-one; task = task-takes-one }
