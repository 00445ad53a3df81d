use Rattle.cddf_meaning_laws.proofs.Beginning.{task_begins}
use Rattle.cddf_meaning_laws.proofs.laws.tasks_begin_with_ints.Goals as goal

pub returns : goal.returns
returns c = task_begins
