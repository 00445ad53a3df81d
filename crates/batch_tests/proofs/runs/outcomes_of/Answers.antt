use Rattle.lawful_layouts.specs.Lasts.{last_outcome}
use Rattle.batch_tests.proofs.runs.outcomes_of.Goals as goal

pub run_batches-requires-clause-before : goal.run_batches-requires-clause-before
run_batches-requires-clause-before g c κs within =
    c.nothing-before.ensures.meant (record { activations = c.args.activations.now; input = c.args.input.now; body = last_outcome c.args.plan.now c.args.some_fail })
