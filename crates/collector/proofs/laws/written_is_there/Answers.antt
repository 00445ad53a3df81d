use Rattle.collector.proofs.Firsts.{written_there}
use Rattle.collector.proofs.laws.written_is_there.Goals as goal

pub returns : goal.returns
returns c = written_there
