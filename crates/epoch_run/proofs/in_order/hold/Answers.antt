use Rattle.epoch_run.proofs.InOrder.{holds}
use Rattle.epoch_run.proofs.in_order.hold.Goals as goal

pub returns-clause-stands : goal.returns-clause-stands
returns-clause-stands c = λ code input budgets goes.
    holds code input budgets c.later_activations_change_nothing.ensures c.args.standing.now c.args.order goes
    (record { ends = c.in_ok-ends.field-0.ends; without_end = c.new.result; kept = c.in_ok-ends.field-0.kept; pace = c.args.standing.now.held.pace })
    c.in_ok-ends.ensures.ends c.in_ok-ends.ensures.held c.new.ensures
