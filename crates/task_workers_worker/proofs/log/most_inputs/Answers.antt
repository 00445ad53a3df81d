use Rattle.std.proofs.Common.{rules, ap}
use Rattle.flow_core_laws.specs.declared.plan.FramePlan.{FramePlan}
use Rattle.flow_core_laws.specs.Plans.{frame_at}
use Rattle.task_workers_worker.proofs.Greatest.{greatest}
use Rattle.task_workers_worker.proofs.log.most_inputs.Goals as goal

pub loop-frame-preserved : goal.loop-frame-preserved
loop-frame-preserved c = greatest (λ f. (frame_at c.args.plan.now f).inputs) c.loop-frame.frame c.loop-frame.most _ _ c.loop-frame.invariant (ap (λ (p : FramePlan). p.inputs) c.frame.ensures) (search rules) (search rules)
