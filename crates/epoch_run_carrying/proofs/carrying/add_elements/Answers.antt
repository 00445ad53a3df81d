use Rattle.std.proofs.Common.{map}
use Rattle.stream_match.specs.Kept.{kept_of}
use Rattle.epoch_run_carrying.proofs.Filtering.{elements_more}
use Rattle.epoch_run_carrying.proofs.carrying.add_elements.Goals as goal

pub loop-number-preserved : goal.loop-number-preserved
loop-number-preserved c =
    elements_more c.args.stream c.args.first c.loop-number.number c.args.values.now (map kept_of c.args.carried.now.items) (map kept_of c.loop-number.carried.items)
    (map kept_of c.add_element.new.carried.items) c.loop-number-test.true c.loop-number.invariant c.in_ok-add_element.ensures
