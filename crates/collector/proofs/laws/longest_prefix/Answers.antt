use Rattle.collector.proofs.Prefixes as prefixes
use Rattle.collector.proofs.laws.longest_prefix.Goals as goal

pub returns : goal.returns
returns c = prefixes.longest_prefix
