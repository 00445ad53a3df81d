use Rattle.std.proofs.Common.{arith}
use Rattle.epoch_run.proofs.PortionedOut.{tried_at}
use Rattle.epoch_run.proofs.portioning.portion_out.Goals as goal

pub run_portions-requires-clause-ran : goal.run_portions-requires-clause-ran
run_portions-requires-clause-ran g c κs within = tried_at c.args.code.now c.args.input.now c.args.budgets c.args.standing.now c.args.order.now c.requires.ran _

pub returns-clause-no_fewer : goal.returns-clause-no_fewer
returns-clause-no_fewer g c = λ rest.
    let more = c.in_ok-run_portions.ensures.no_fewer in
    let all = (c.in_ok-all.ensures.stays rest).all in
    let before = c.requires.ran.all in
    omega (arith, more, all, before)
