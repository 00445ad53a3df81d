use Rattle.std.proofs.Common.{◌≡◌, length, arith}
use Rattle.epoch_run_stretch.proofs.GoingOn.{numbers_go_on}
use Rattle.epoch_run_stretch.proofs.consecutive.number_after.Goals as goal

pub returns : goal.returns
returns c =
    let size : c.loop-ended.ended-index ≡ length c.args.ended.now = omega (arith, c.loop-ended-test.false, c.loop-ended.auto.ended-index-end) in
    numbers_go_on c.args.ended.now c.args.first c.loop-ended.number c.loop-ended.ended-index c.loop-ended.invariant.number size c.loop-ended.invariant.numbers
