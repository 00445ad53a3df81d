use Rattle.epoch_run_in_order_laws.proofs.Growing.{elements_grow}
use Rattle.epoch_run_in_order_laws.proofs.OneMore.{goes_on}
use Rattle.epoch_run_in_order_laws.proofs.laws.one_more_in_order.Goals as goal

pub returns-clause-goes_on : goal.returns-clause-goes_on
returns-clause-goes_on c = goes_on

pub returns-clause-elements : goal.returns-clause-elements
returns-clause-elements c = elements_grow
