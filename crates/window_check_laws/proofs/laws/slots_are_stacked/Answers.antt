use Rattle.window_check_laws.proofs.Summed.{stays_in, stacked-declarator, stacked-stmt, stacked-stmts}
use Rattle.window_check_laws.proofs.laws.slots_are_stacked.Goals as goal

pub returns-clause-stays : goal.returns-clause-stays
returns-clause-stays c a s h = stays_in h s

pub returns-clause-declarator : goal.returns-clause-declarator
returns-clause-declarator c s d h = stacked-declarator s d h

pub returns-clause-statement : goal.returns-clause-statement
returns-clause-statement c a s is h = stacked-stmt is s h

pub returns-clause-statements : goal.returns-clause-statements
returns-clause-statements c ss s is h = stacked-stmts is s h
