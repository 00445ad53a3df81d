use Rattle.os_object.proofs.Spelling.{one_reading}
use Rattle.os_object.proofs.laws.one_reading.Goals as goal

pub returns : goal.returns
returns c = one_reading
