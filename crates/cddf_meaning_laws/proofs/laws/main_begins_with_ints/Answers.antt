use Rattle.cddf_meaning_laws.proofs.Beginning.{main_begins}
use Rattle.cddf_meaning_laws.proofs.laws.main_begins_with_ints.Goals as goal

pub returns : goal.returns
returns c = main_begins
