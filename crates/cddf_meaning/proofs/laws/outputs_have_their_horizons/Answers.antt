use Rattle.cddf_meaning.proofs.Written.{outputs-have}
use Rattle.cddf_meaning.proofs.laws.outputs_have_their_horizons.Goals as goal

pub returns : goal.returns
returns c = outputs-have
