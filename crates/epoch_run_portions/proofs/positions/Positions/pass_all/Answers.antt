use Rattle.epoch_run_portions.proofs.Passing.{pass_next}
use Rattle.epoch_run_portions.proofs.positions.Positions.pass_all.Goals as goal

pub pass-requires : goal.pass-requires
pass-requires c =
    pass_next c.args.self.now c.loop-activation.self c.args.activations.now c.loop-activation.activation-index c.activation-item.result c.requires
    c.loop-activation-test.true c.activation-item.is c.loop-activation.invariant.passed
