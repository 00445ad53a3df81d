use Rattle.cddf_meaning_laws.proofs.Reading.{reads_ints}
use Rattle.cddf_meaning_laws.proofs.laws.activations_read_ints.Goals as goal

pub returns : goal.returns
returns c = reads_ints
