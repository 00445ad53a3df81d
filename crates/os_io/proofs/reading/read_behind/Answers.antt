use Rattle.std.proofs.Common.{arith}
use Rattle.os_io.proofs.Pieces.{prepend_known-behind}
use Rattle.os_io.proofs.reading.read_behind.Goals as goal

pub returns-clause-bytes : goal.returns-clause-bytes
returns-clause-bytes g c =
    prepend_known-behind c.read.result _ _ c.args.buffer.now c.read.new.buf c.args.filled _ (omega arith) (rw c.read.auto.buf c.read.ensures.within) c.read.ensures.bytes
