use Rattle.lowering.proofs.statements.emit_test.Goals as goal

pub returns-in-Some : goal.returns-in-Some
returns-in-Some c = rw c.in-Some.is c.emit_condition.ensures
