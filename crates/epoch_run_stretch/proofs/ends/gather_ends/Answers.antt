use Rattle.std.proofs.Common.{◌<◌, Some, length, arith, ◌≡◌, sym, subst, ap, ◌∙◌}
use Rattle.epoch_run_batches.specs.Meant.{AreEndsMeant}
use Rattle.std.specs.Prelude.{slice_get}
use Rattle.std.proofs.lemmas.Option.{slice_get-get_or}
use Rattle.epoch_run_stretch.proofs.ends.gather_ends.Goals as goal

pub loop-outcome-preserved : goal.loop-outcome-preserved
loop-outcome-preserved c =
    let lt : c.loop-outcome.outcome-index < length c.args.outcomes.now = omega (arith, c.loop-outcome-test.true, c.loop-outcome.auto.outcome-index-end) in
    let at : slice_get c.args.outcomes.now c.loop-outcome.outcome-index ≡ Some c.outcome-item.result = slice_get-get_or c.args.outcomes.now c.loop-outcome.outcome-index c.outcome-item.result lt ∙ ap Some (sym c.outcome-item.is) in
    record {
      count = c.put_ends.ensures.count ∙ c.loop-outcome.invariant.count;
      meant = λ run are. c.put_ends.ensures.meant run (subst (AreEndsMeant run) (sym c.as_slice.ensures) (are c.loop-outcome.outcome-index c.outcome-item.result at).ends) (c.loop-outcome.invariant.meant run are);
    }
