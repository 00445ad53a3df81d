use Rattle.flow_core_laws.proofs.Roots.{least_root_is_least, others_are_values}
use Rattle.flow_core_laws.proofs.laws.least_roots.Goals as goal

pub returns-clause-least : goal.returns-clause-least
returns-clause-least c = least_root_is_least

pub returns-clause-values : goal.returns-clause-values
returns-clause-values c = others_are_values
