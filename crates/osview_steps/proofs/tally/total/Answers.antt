use Rattle.std.proofs.Common.{None, arith}
use Rattle.osview_steps.proofs.Counting.{total_more}
use Rattle.osview_steps.proofs.tally.total.Goals as goal

pub loop-run-preserved : goal.loop-run-preserved
loop-run-preserved c =
    let so_far = c.loop-run.invariant.so_far in
    let small = c.loop-run.invariant.small in
    let more = total_more c.args.runs.now c.loop-run.run-index (record { task = 0; took = None }) (omega arith) in
    record {
      so_far = let a = c.plus-total.ensures.sum in let b = c.steps_of.ensures in omega (arith, so_far, a, b, more);
      small = let s = c.plus-total.ensures.small in omega (arith, small, s);
    }
