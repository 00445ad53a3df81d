use Rattle.std.proofs.Common.{refl}
use Rattle.flow_core_concurrent.proofs.Fitting.{two_meant, two_fit}
use Rattle.flow_core_concurrent.proofs.examples.two_producers.Goals as goal

pub returns-clause-fit : goal.returns-clause-fit
returns-clause-fit c = two_fit

pub returns-clause-meaning : goal.returns-clause-meaning
returns-clause-meaning c = two_meant

pub returns-clause-first_order : goal.returns-clause-first_order
returns-clause-first_order c = refl

pub returns-clause-other_order : goal.returns-clause-other_order
returns-clause-other_order c = refl

pub returns-clause-no_join_while_one_runs : goal.returns-clause-no_join_while_one_runs
returns-clause-no_join_while_one_runs c = refl
