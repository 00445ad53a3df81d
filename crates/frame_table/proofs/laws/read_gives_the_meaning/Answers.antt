use Rattle.frame_table.proofs.Rules.{reads_the_meaning}
use Rattle.frame_table.proofs.laws.read_gives_the_meaning.Goals as goal

pub returns : goal.returns
returns c = reads_the_meaning
