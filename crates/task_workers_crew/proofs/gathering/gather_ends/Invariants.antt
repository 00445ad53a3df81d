use Rattle.std.specs.Prelude.{◌≡◌, ◌+◌, ◌≤◌, length, take}
use Rattle.flow_core_laws.specs.Outcome.{ends_of}
use Rattle.flow_core_laws.specs.Plans.{plan_meaning}
use Rattle.task_workers_crew.proofs.gathering.gather_ends.Given as goal

abbrev pub invariant-loop-frame : goal.invariant-loop-frame
invariant-loop-frame g l = (l.ends.items ≡ take l.frame (ends_of (plan_meaning l.plan (g.B.Bodies.outcome l.bodies)))) × (length l.plan.frames ≤ l.ends.spare + l.frame)
