use Rattle.os_code.proofs.Computed.{examples, control_examples}
use Rattle.os_code.proofs.Refused.{refusals}
use Rattle.os_code.proofs.laws.examples.Goals as goal

pub returns : goal.returns
returns c = record { tasks = examples; control = control_examples; refusals = refusals }
