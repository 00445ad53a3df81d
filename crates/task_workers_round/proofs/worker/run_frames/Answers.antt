use Rattle.std.proofs.Common.{ap, arith, rules}
use Rattle.flow_core_laws.specs.declared.plan.FramePlan.{FramePlan}
use Rattle.task_workers_round.proofs.Joining.{room_within, HaveRun-more}
use Rattle.task_workers_round.proofs.worker.run_frames.Goals as goal

pub slice_bounds-stretch-end : goal.slice_bounds-stretch-end
slice_bounds-stretch-end g c =
    let run = c.loop-k.invariant.0 in
    let within = room_within c.args.plan.now c.args.frames.now c.loop-k.k c.frame.result.outputs c.loop-k.first c.loop-k-test.true run.at (ap (λ (p : FramePlan). p.outputs) c.frame.ensures) in
    let room = run.room in
    omega arith

pub loop-k-preserved : goal.loop-k-preserved
loop-k-preserved g c =
    let count = ap (λ (p : FramePlan). p.outputs) c.frame.ensures in
    (HaveRun-more _ _ _ _ _ _ _ _ _ _ c.loop-k.invariant.0 c.loop-k-test.true count (search rules) c.in_ok-ends.ensures.gives, c.run_frame.ensures.fitting)

pub returns-clause-results : goal.returns-clause-results
returns-clause-results g c = record { gives = λ k lt. (c.loop-k.invariant.0).gives k (omega arith) lt }
