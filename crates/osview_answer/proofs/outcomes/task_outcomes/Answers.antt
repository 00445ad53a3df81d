use Rattle.std.proofs.Common.{subst}
use Rattle.epoch_run_bodies.specs.Frames.{frame_outcome}
use Rattle.os_code.specs.Codes.{parts_of}
use Rattle.osview_outcomes.specs.Outcomes.{AreOutcomesOf}
use Rattle.osview_answer.proofs.outcomes.task_outcomes.Goals as goal

pub outcomes-requires-clause-served : goal.outcomes-requires-clause-served
outcomes-requires-clause-served c = λ _.
    c.bodies_serve.ensures.plans (parts_of c.args.code.now) c.args.activations.now c.args.input.now c.args.budget c.in_ok-plan.plan c.args.code.now.valid c.requires.fit c.requires.budget
    (c.in_ok-plan.ensures.stands_for c.args.activations.now c.requires.laid)

pub returns : goal.returns
returns c =
    let stands = c.in_ok-plan.ensures.stands_for c.args.activations.now c.requires.laid in
    subst (AreOutcomesOf c.in_ok-kept.kept)
    (c.plan_meaning.ensures.meaning c.in_ok-plan.plan c.args.activations.now c.args.input.now (frame_outcome (parts_of c.args.code.now) c.args.activations.now c.args.budget) stands) c.in_ok-kept.ensures.outcomes
