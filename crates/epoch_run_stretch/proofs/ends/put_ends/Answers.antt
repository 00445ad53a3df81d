use Rattle.std.proofs.Common.{◌<◌, length, ◌∙◌, arith}
use Rattle.std.proofs.lemmas.Option.{slice_get-get_or}
use Rattle.epoch_run_stretch.proofs.ends.put_ends.Goals as goal

pub loop-ended-preserved : goal.loop-ended-preserved
loop-ended-preserved c =
    let lt : c.loop-ended.ended-index < length c.args.ended.now = omega (arith, c.loop-ended-test.true, c.loop-ended.auto.ended-index-end) in
    record {
      count = c.put_end.ensures.count ∙ c.loop-ended.invariant.count;
      meant = λ run are before. c.put_end.ensures.meant run (are c.loop-ended.ended-index _ (slice_get-get_or c.args.ended.now c.loop-ended.ended-index _ lt)) (c.loop-ended.invariant.meant run are before);
    }
