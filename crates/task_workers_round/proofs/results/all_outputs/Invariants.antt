use Rattle.std.proofs.Common.{◌≡◌, ◌+◌, sum_by, drop}
use Rattle.flow_core_laws.specs.declared.plan.FramePlan.{FramePlan}
use Rattle.task_workers_round.proofs.results.all_outputs.Given as goal

abbrev pub invariant-loop-frame : goal.invariant-loop-frame
invariant-loop-frame l = l.count + sum_by (λ (p : FramePlan). p.outputs) (drop l.frame-index l.plan.frames) ≡ sum_by (λ (p : FramePlan). p.outputs) l.plan.frames
