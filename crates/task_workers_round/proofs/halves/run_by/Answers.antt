use Rattle.task_workers_round.specs.declared.worker.Worker.{Worker}
use Rattle.task_workers_round.proofs.Cutting.{IsShared-from, IsPart-from}
use Rattle.task_workers_round.proofs.halves.run_by.Goals as goal

pub run_part-requires-clause-shared : goal.run_part-requires-clause-shared
run_part-requires-clause-shared g c κs within = IsShared-from c.args.plan.now (g.B.Bodies.outcome c.args.bodies.now) (g.B.Bodies.takes c.args.bodies.now) c.args.board.now c.requires.sound c.requires.served c.requires.counted c.requires.shows

pub run_part-requires-clause-part : goal.run_part-requires-clause-part
run_part-requires-clause-part g c κs within = IsPart-from c.args.plan.now c.args.board.now.waits (λ (w : Worker g.row.S.Denot). g.B.Bodies.fits c.args.bodies.now w.scratch) c.args.frames.now c.args.ends.now c.args.outputs.now c.args.workers.now c.requires.may_run c.requires.end_each c.requires.room c.requires.few c.requires.frames_are_few c.requires.some c.requires.fitting
