use Rattle.std.proofs.Common.{◌≡◌, ◌+◌, subst, arith}
use Rattle.std.specs.Prelude.{IfOk, IfSome, ◌≤◌}
use Rattle.epoch_run_stretch.specs.Gathered.{IsGathered}
use Rattle.epoch_run_stretch.proofs.Gathering.{part_gathered}
use Rattle.epoch_run_stretch.proofs.held.gather_part.Goals as goal

pub returns : goal.returns
returns c =
    let from : c.in-Some.from ≡ c.args.first + c.args.held = omega (arith, c.in-Some.ensures) in
    subst (λ f. IfOk c.gather_stream.result (λ part. IfSome part (λ xs. 1 ≤ c.args.stream → IsGathered f c.args.to c.args.outcomes.now c.args.stream xs))) from
    (part_gathered c.gather_stream.result c.in-Some.from c.args.to c.args.outcomes.now c.args.stream c.gather_stream.ensures.count c.gather_stream.ensures.all c.gather_stream.ensures.meant)
