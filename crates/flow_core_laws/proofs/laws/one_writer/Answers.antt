use Rattle.flow_core_laws.proofs.Windows.{apart, one_writer_of, producer_of, producer_by_number}
use Rattle.flow_core_laws.proofs.laws.one_writer.Goals as goal

pub returns-clause-one : goal.returns-clause-one
returns-clause-one c = one_writer_of

pub returns-clause-is_producer : goal.returns-clause-is_producer
returns-clause-is_producer c = producer_of

pub returns-clause-in_order : goal.returns-clause-in_order
returns-clause-in_order c = apart

pub returns-clause-numbered : goal.returns-clause-numbered
returns-clause-numbered c = producer_by_number
