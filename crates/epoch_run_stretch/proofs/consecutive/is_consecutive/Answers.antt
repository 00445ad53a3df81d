use Rattle.std.proofs.Common.{◌<◌, ◌≡◌, Some, length, arith, ap, sym, ◌∙◌}
use Rattle.std.specs.Prelude.{slice_get}
use Rattle.std.proofs.lemmas.Option.{slice_get-get_or}
use Rattle.epoch_run_stretch.proofs.GoingOn.{going_on}
use Rattle.epoch_run_stretch.proofs.consecutive.is_consecutive.Goals as goal

pub loop-outcome-preserved : goal.loop-outcome-preserved
loop-outcome-preserved c =
    let outcomes = c.args.outcomes.now in
    let i = c.loop-outcome.outcome-index in
    let lt : i < length outcomes = omega (arith, c.loop-outcome-test.true, c.loop-outcome.auto.outcome-index-end) in
    let at : slice_get outcomes i ≡ Some c.outcome-item.result = slice_get-get_or outcomes i c.outcome-item.result lt ∙ ap Some (sym c.outcome-item.is) in
    going_on outcomes i c.outcome-item.result c.args.stream c.args.from c.loop-outcome.position c.in-Some.next at c.loop-outcome.invariant c.in-Some.ensures
