use Rattle.std.proofs.Common.{arith}
use Rattle.os_code.specs.Codes.{parts_of}
use Rattle.epoch_run.specs.Run.{created}
use Rattle.epoch_run.proofs.PortionedOut.{joined}
use Rattle.epoch_run.proofs.portions.join_one.Goals as goal

pub returns-clause-no_fewer : goal.returns-clause-no_fewer
returns-clause-no_fewer c = let count = c.in_ok-join.ensures.count in omega (arith, c.if-first-ran.false, c.len-ran.ensures, count)

pub returns-clause-ran : goal.returns-clause-ran
returns-clause-ran c = λ code input budgets ready_apart portion ran.
    joined code input budgets c.args.order.now c.join.new.self c.args.apart.now ready_apart portion ran (omega (arith, c.if-first-ran.false, c.len-ran.ensures)) (c.in_ok-join.ensures.ready code) c.in_ok-join.ensures.count
    (λ before. c.in_ok-join.ensures.stands (parts_of code) (created (parts_of code) input budgets) before input budgets.task)
