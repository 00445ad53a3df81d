use Rattle.std.proofs.Common.{◌+◌, ◌∙◌, sym, ap}
use Rattle.epoch_run_in_order.proofs.apart.Apart.run.Goals as goal

pub returns-clause-ran : goal.returns-clause-ran
returns-clause-ran c = λ ran all before from number_is.
    c.in_ok-ran.ensures.ran_apart ran all before from (number_is ∙ ap (λ n. c.args.self.now.first + n) (sym c.len.ensures))
