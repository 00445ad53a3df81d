use Rattle.cddf_meaning.proofs.Sums.{skip-sum}
use Rattle.cddf_meaning.proofs.laws.skips_are_sums.Goals as goal

pub returns : goal.returns
returns c = skip-sum
