use Rattle.window_check_laws.proofs.Summed.{slots-in_body, slots-in_task, summed-stmt, summed-stmts}
use Rattle.window_check_laws.proofs.laws.slots_are_summed.Goals as goal

pub returns-clause-function : goal.returns-clause-function
returns-clause-function c s f = slots-in_body s f

pub returns-clause-task : goal.returns-clause-task
returns-clause-task c s ps a = slots-in_task s ps a

pub returns-clause-statement : goal.returns-clause-statement
returns-clause-statement c size s a h = summed-stmt size s a h

pub returns-clause-statements : goal.returns-clause-statements
returns-clause-statements c size s ss h = summed-stmts size s ss h
