use Rattle.lowering_relation.proofs.Filled.{bodies_fill}
use Rattle.lowering_relation.proofs.laws.bodies_fill_their_outputs.Goals as goal

pub returns : goal.returns
returns c = bodies_fill
