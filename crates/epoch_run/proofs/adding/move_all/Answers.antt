use Rattle.std.proofs.Common.{arith, sym, subst}
use Rattle.epoch_run.proofs.Moving.{AreLeft, one_less, one_moved}
use Rattle.epoch_run.proofs.adding.move_all.Goals as goal

pub loop-number-preserved : goal.loop-number-preserved
loop-number-preserved c = record {
  moved = one_moved c.loop-number.number c.args.next c.loop-number.next c.reserve.new.self c.loop-number.activations c.push.new.self c.take_out-activation.result
      (omega (arith, c.loop-number-test.true, c.len-number-end.ensures)) c.loop-number.invariant.left c.take_out-activation.ensures.taken c.loop-number.invariant.moved c.in_ok-push.ensures.ok;
  left = subst (AreLeft _ c.args.next) (sym c.take_out-activation.ensures.left) (one_less c.loop-number.number c.args.next c.loop-number.next c.loop-number.invariant.left);
}
