use Rattle.epoch_run_in_order_laws.proofs.Held.{held_in_order}
use Rattle.epoch_run_in_order_laws.proofs.Resuming.{runs_on_from_held}
use Rattle.epoch_run_in_order_laws.proofs.laws.in_order_and_in_epochs.Goals as goal

pub returns-clause-held : goal.returns-clause-held
returns-clause-held c = held_in_order

pub returns-clause-from_held : goal.returns-clause-from_held
returns-clause-from_held c = runs_on_from_held
