use Rattle.osrun_core_answer.proofs.Workers.{change_nothing, made_same}
use Rattle.osrun_core_answer.proofs.laws.workers_change_nothing.Goals as goal

pub returns-clause-meant : goal.returns-clause-meant
returns-clause-meant g c = change_nothing c.one_answer.ensures.program c.one_reading.ensures c.one_walk.ensures

pub returns-clause-made : goal.returns-clause-made
returns-clause-made g c = made_same _ _ _ _ _ c.one_answer.ensures.program c.one_reading.ensures c.one_walk.ensures c.requires
