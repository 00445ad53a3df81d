use Rattle.os_object.proofs.RoundTrip.{codes_run}
use Rattle.os_object.proofs.laws.codes_run.Goals as goal

pub returns : goal.returns
returns c = codes_run
