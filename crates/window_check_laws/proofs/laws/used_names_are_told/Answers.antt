use Rattle.window_check_laws.proofs.Told.{declared-use, told-use, one-meaning, one-type}
use Rattle.window_check_laws.proofs.laws.used_names_are_told.Goals as goal

pub returns-clause-declared : goal.returns-clause-declared
returns-clause-declared c s n u h = declared-use s n u h

pub returns-clause-told : goal.returns-clause-told
returns-clause-told c rs s n u e is h = told-use rs s n u e is h

pub returns-clause-one : goal.returns-clause-one
returns-clause-one c rs p v w o h k = one-meaning rs p v w o h k

pub returns-clause-one_type : goal.returns-clause-one_type
returns-clause-one_type c rs p v w a b o h k = one-type rs p v w a b o h k
