use Rattle.flow_core.proofs.Showing.{AreEmpty-waiting}
use Rattle.task_workers_round.proofs.alone.run_next.Goals as goal

pub take-requires-clause-empty : goal.take-requires-clause-empty
take-requires-clause-empty g c = AreEmpty-waiting _ _ _ _ _ c.requires.sound c.requires.counted.cells_of_plan c.requires.shows c.requires.may_run.0 c.requires.waits

pub returns-clause-shows : goal.returns-clause-shows
returns-clause-shows g c = c.in_ok-take.ensures.shows _ c.requires.shows c.in_ok-end.ensures.gives
