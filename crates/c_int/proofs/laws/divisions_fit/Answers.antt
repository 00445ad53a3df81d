use Rattle.c_int.proofs.Divisions.{fits}
use Rattle.c_int.proofs.laws.divisions_fit.Goals as goal

pub returns : goal.returns
returns c = fits
