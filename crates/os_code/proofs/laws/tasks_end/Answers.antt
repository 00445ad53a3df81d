use Rattle.os_code.proofs.Halting.{tasks_end, task_ends_are_one}
use Rattle.os_code.proofs.Proper.{task_ends_are_proper}
use Rattle.os_code.proofs.laws.tasks_end.Goals as goal

pub returns : goal.returns
returns c = record { there = tasks_end; one = task_ends_are_one; proper = task_ends_are_proper }
