use Rattle.std.proofs.Common.{◌-◌, arith}
use Rattle.epoch_run_in_order.proofs.StreamsBehind.{put_more}
use Rattle.epoch_run_in_order.proofs.streams_behind.put_all.Goals as goal

pub putting-preserved : goal.putting-preserved
putting-preserved c = record {
  few = omega (arith, c.putting.invariant.few);
  put = put_more c.args.firsts.now c.args.elements.now c.putting.elements c.put.new.elements c.args.kept.now (c.putting.left - 1) c.putting.left _
      (omega (arith, c.putting-test.true)) (omega (arith, c.putting-test.true, c.putting.invariant.few)) c.putting.invariant.put c.put.ensures;
}
