use Rattle.os_ast.proofs.Begins.{expr-begins, stmt-begins, item-begins}
use Rattle.os_ast.proofs.laws.parts_begin.Goals as goal

pub returns-clause-expressions : goal.returns-clause-expressions
returns-clause-expressions c = expr-begins

pub returns-clause-statements : goal.returns-clause-statements
returns-clause-statements c = stmt-begins

pub returns-clause-items : goal.returns-clause-items
returns-clause-items c = item-begins
