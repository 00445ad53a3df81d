use Rattle.collector.proofs.Firsts.{missing_first}
use Rattle.collector.proofs.laws.missing_is_first.Goals as goal

pub returns : goal.returns
returns c = missing_first
