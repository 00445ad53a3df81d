use Rattle.cddf_meaning_laws.proofs.Captured.{give}
use Rattle.cddf_meaning_laws.proofs.laws.bodies_give_ints.Goals as goal

pub returns : goal.returns
returns c = give c.numbers_stay_ints.ensures.programs c.tasks_begin_with_ints.ensures
