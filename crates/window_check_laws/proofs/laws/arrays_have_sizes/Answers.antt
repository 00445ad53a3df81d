use Rattle.window_check_laws.proofs.Known.{sizes-in}
use Rattle.window_check_laws.proofs.Summed.{sizes-first, sizes-rest}
use Rattle.window_check_laws.proofs.laws.arrays_have_sizes.Goals as goal

pub returns-clause-all : goal.returns-clause-all
returns-clause-all c p leveled none = sizes-in p leveled none

pub returns-clause-first : goal.returns-clause-first
returns-clause-first c size xs ys h = sizes-first size xs ys h

pub returns-clause-rest : goal.returns-clause-rest
returns-clause-rest c size xs ys h = sizes-rest size xs ys h
