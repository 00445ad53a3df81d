use Rattle.epoch_run.proofs.Going.{begins}
use Rattle.epoch_run.proofs.standing.Standing.new.Goals as goal

pub returns : goal.returns
returns c =
    begins c.args.code.now c.args.input.now c.args.budgets c.run_in_epochs.ensures.first c.in_ok-layout.layout c.nothing.result
    c.args.code.now.valid.sites.streams_enough c.in_ok-layout.ensures.empty c.in_ok-layout.ensures.streams c.in_ok-layout.ensures.input
    c.nothing.ensures.ends c.nothing.ensures.output c.nothing.ensures.without_end c.nothing.ensures.kept c.in_ok-control.control c.in_ok-control.ensures c.new-3.result c.new-3.ensures
