use Rattle.std.proofs.Common.{subst, sym}
use Rattle.epoch_run.proofs.InOrder.{begins_in_order}
use Rattle.epoch_run.specs.InOrder.{HaveRunInOrder}
use Rattle.epoch_run.specs.declared.standing.Standing.{Standing}
use Rattle.epoch_run.proofs.in_order.run_in_order.Goals as goal

pub run_on-requires-clause-ran : goal.run_on-requires-clause-ran
run_on-requires-clause-ran g c κs within =
    subst (λ (s : Standing). HaveRunInOrder c.args.code.now c.args.input.now c.args.budgets s c.in_ok-order.order) (sym c.in_ok-order.ensures.same)
    (begins_in_order c.args.code.now c.args.input.now c.args.budgets c.later_activations_change_nothing.ensures c.args.standing.now c.requires.stands c.requires.ran c.requires.none
    c.in_ok-order.order c.in_ok-order.ensures.ready c.in_ok-order.ensures.count c.in_ok-order.ensures.stands c.begin.new.standing.held)
