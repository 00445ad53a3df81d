use Rattle.osrun_core_run.proofs.BodyBytes.{body_gives}
use Rattle.osrun_core_run.proofs.laws.bodies_give_bytes.Goals as goal

pub returns : goal.returns
returns c = body_gives c.turns_never_grow.ensures.statements
