use Rattle.flow_core_laws.proofs.Failed.{roots_failed}
use Rattle.flow_core_laws.proofs.laws.roots_failed.Goals as goal

pub returns : goal.returns
returns c = roots_failed
