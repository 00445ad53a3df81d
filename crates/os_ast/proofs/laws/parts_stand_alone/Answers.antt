use Rattle.os_ast.proofs.Prints.{prints_expr, prints_stmt, prints_item}
use Rattle.os_ast.proofs.laws.parts_stand_alone.Goals as goal

pub returns-clause-expressions : goal.returns-clause-expressions
returns-clause-expressions c e = (prints_expr e).in_front

pub returns-clause-statements : goal.returns-clause-statements
returns-clause-statements c s = (prints_stmt s).in_front

pub returns-clause-items : goal.returns-clause-items
returns-clause-items c i = (prints_item i).in_front
