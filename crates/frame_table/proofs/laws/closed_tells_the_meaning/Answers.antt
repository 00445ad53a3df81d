use Rattle.frame_table.proofs.Rules.{closed_tells}
use Rattle.frame_table.proofs.laws.closed_tells_the_meaning.Goals as goal

pub returns : goal.returns
returns c = closed_tells
