use Rattle.lowering_draft.proofs.Resolving.{next_resolved}
use Rattle.lowering_draft.specs.Draft.{with_places}
use Rattle.lowering_draft.specs.Emission.Units.{place_in}
use Rattle.lowering_draft.proofs.labels.resolve_all.Goals as goal

pub loop-at-preserved : goal.loop-at-preserved
loop-at-preserved c =
    let f = with_places (place_in c.args.places.now) in
    next_resolved f c.args.instrs.now c.loop-at.instrs c.loop-at.at c.resolve_one.result _ c.loop-at-test.true c.loop-at.invariant c.resolve_one.ensures
