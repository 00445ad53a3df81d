use Rattle.window_check_laws.proofs.Counted.{functions_counted, functions_in_body}
use Rattle.window_check_laws.proofs.Globals.{distinct-program}
use Rattle.window_check_laws.proofs.Told.{lawful-program}
use Rattle.window_check_laws.proofs.laws.functions_are_numbered.Goals as goal

pub returns-clause-all : goal.returns-clause-all
returns-clause-all c s is = functions_counted s is

pub returns-clause-inside : goal.returns-clause-inside
returns-clause-inside c s f = functions_in_body s f

pub returns-clause-apart : goal.returns-clause-apart
returns-clause-apart c p h = distinct-program p (lawful-program p h)
