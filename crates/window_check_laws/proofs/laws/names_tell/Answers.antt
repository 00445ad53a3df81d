use Rattle.window_check_laws.proofs.Told.{tells-program, tells-first, tells-rest, lawful-program, lawful-first, lawful-rest}
use Rattle.window_check_laws.proofs.laws.names_tell.Goals as goal

pub returns-clause-all : goal.returns-clause-all
returns-clause-all c p = tells-program p

pub returns-clause-first : goal.returns-clause-first
returns-clause-first c rs xs ys h = tells-first rs xs ys h

pub returns-clause-rest : goal.returns-clause-rest
returns-clause-rest c rs xs ys h = tells-rest rs xs ys h

pub returns-clause-lawful : goal.returns-clause-lawful
returns-clause-lawful c p h = lawful-program p h

pub returns-clause-lawful_first : goal.returns-clause-lawful_first
returns-clause-lawful_first c xs ys h = lawful-first xs ys h

pub returns-clause-lawful_rest : goal.returns-clause-lawful_rest
returns-clause-lawful_rest c xs ys h = lawful-rest xs ys h
