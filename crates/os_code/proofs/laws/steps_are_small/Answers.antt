use Rattle.os_code.proofs.Small.{steps_are_small}
use Rattle.os_code.proofs.laws.steps_are_small.Goals as goal

pub returns : goal.returns
returns c = steps_are_small
