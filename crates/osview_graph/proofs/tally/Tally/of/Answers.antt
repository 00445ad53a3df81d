use Rattle.std.proofs.Common.{◌<◌, arith, length}
use Rattle.osview_graph.specs.Arrows.{is_alike}
use Rattle.osview_graph.proofs.Sizes.{with_same}
use Rattle.osview_graph.proofs.tally.Tally.of.Goals as goal

pub loop-one-preserved : goal.loop-one-preserved
loop-one-preserved c = λ u.
    let lt : c.loop-one.one-index < length c.args.all.now = omega (arith, c.loop-one-test.true) in
    with_same (is_alike u) c.args.all.now c.loop-one.one-index _ lt (c.loop-one.invariant u) (c.in_ok-add.ensures u)
