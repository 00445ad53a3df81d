use Rattle.epoch_run_in_order_laws.proofs.Apart.{goes_on_apart, written_grow}
use Rattle.epoch_run_in_order_laws.proofs.Joining.{join}
use Rattle.epoch_run_in_order_laws.proofs.laws.apart_and_joined.Goals as goal

pub returns-clause-goes_on : goal.returns-clause-goes_on
returns-clause-goes_on c = goes_on_apart

pub returns-clause-written : goal.returns-clause-written
returns-clause-written c = written_grow

pub returns-clause-join : goal.returns-clause-join
returns-clause-join c = join
