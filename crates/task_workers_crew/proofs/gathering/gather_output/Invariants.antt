use Rattle.std.specs.Prelude.{◌≡◌, ◌+◌, ◌≤◌, take}
use Rattle.flow_core_laws.specs.Plans.{plan_meaning, sink_elements}
use Rattle.task_workers_crew.proofs.gathering.gather_output.Given as goal

abbrev pub invariant-loop-k : goal.invariant-loop-k
invariant-loop-k g l = (l.output.items ≡ take l.k (sink_elements l.plan (plan_meaning l.plan (g.B.Bodies.outcome l.bodies)))) × (l.plan.sink.inputs ≤ l.output.spare + l.k)
