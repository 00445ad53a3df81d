use Rattle.osparts_parts.proofs.Joining.{plain_joined}
use Rattle.osparts_parts.proofs.laws.plain_outputs_are_joined.Goals as goal

pub returns : goal.returns
returns c = plain_joined
