use Rattle.std.proofs.Common.{arith}
use Rattle.os_object.proofs.Spelling.{four-bytes}
use Rattle.os_object.proofs.bytes.number_of.Goals as goal

pub returns : goal.returns
returns c =
    four-bytes _ c.args.first c.args.second c.args.third c.args.fourth (omega arith) (omega arith) (omega arith) (omega arith) (omega arith)
