use Rattle.std.proofs.Common.{rules}
use Rattle.os_object.specs.Object.{number}
use Rattle.os_object.proofs.bytes.push_number.Goals as goal

pub returns : goal.returns
unfolding number
returns c = search rules
