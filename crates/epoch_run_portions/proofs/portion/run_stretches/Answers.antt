use Rattle.epoch_run_portions.proofs.Portions.{is_within, within_same}
use Rattle.epoch_run_portions.proofs.portion.run_stretches.Goals as goal

pub returns-after-stretches : goal.returns-after-stretches
returns-after-stretches c =
    let i = c.stretches.invariant in
    within_same c.args.code.now c.args.input.now c.args.budget c.args.walk.now.control c.stretches.walk.control c.stretches.apart i.same
    (is_within c.args.code.now c.args.input.now c.args.budget c.stretches.walk c.stretches.apart i.stands)
