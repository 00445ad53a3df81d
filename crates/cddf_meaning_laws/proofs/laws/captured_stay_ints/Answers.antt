use Rattle.cddf_meaning_laws.proofs.Captured.{capture}
use Rattle.cddf_meaning_laws.proofs.laws.captured_stay_ints.Goals as goal

pub returns : goal.returns
returns c = capture c.numbers_stay_ints.ensures.programs c.main_begins_with_ints.ensures
