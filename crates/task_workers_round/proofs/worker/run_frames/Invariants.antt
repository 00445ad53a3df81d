use Rattle.flow_core_laws.specs.Plans.{plan_meaning}
use Rattle.task_workers_round.proofs.Joining.{HaveRun}
use Rattle.task_workers_round.proofs.worker.run_frames.Given as goal

abbrev pub invariant-loop-k : goal.invariant-loop-k
invariant-loop-k g l = HaveRun l.plan (plan_meaning l.plan (g.B.Bodies.outcome l.bodies)) l.frames l.ends l.outputs l.first l.k × g.B.Bodies.fits l.bodies l.worker.scratch
