use Rattle.task_workers_crew.proofs.Joining.{seated_now}
use Rattle.task_workers_crew.proofs.running.take_seat.Goals as goal

pub returns-clause-seated : goal.returns-clause-seated
returns-clause-seated g c = seated_now c.args.table.now c.args.seat c.args.worker.now.hand c.args.worker.now.log c.requires.fresh c.requires.equipped
