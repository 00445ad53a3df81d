use Rattle.cddf_meaning.proofs.Scoping.{main_is_scoped}
use Rattle.cddf_meaning.proofs.laws.tasks_are_scoped.Goals as goal

pub returns : goal.returns
returns c = main_is_scoped
