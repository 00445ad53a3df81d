use Rattle.std.proofs.Common.{sym}
use Rattle.os_code.specs.Codes.{parts_of}
use Rattle.epoch_run.proofs.AtOnce.{ends_if}
use Rattle.epoch_run.proofs.at_once.run_at_once.Goals as goal

pub build-requires-clause-input : goal.build-requires-clause-input
build-requires-clause-input g c = sym c.requires.input

pub returns : goal.returns
returns g c =
    let activations = c.args.bodies.now.activations.now in
    ends_if (parts_of c.args.bodies.now.code.now) activations c.args.bodies.now.budget c.plan_meaning.ensures.meaning c.plan_meaning.ensures.sink
    c.in_ok-plan.plan c.args.input.now (c.in_ok-plan.ensures.stands_for activations c.requires.laid) c.run_plan.result c.run_plan.ensures.ends c.run_plan.ensures.output
