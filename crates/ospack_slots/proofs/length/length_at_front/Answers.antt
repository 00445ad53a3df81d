use Rattle.std.proofs.Common.{arith}
use Rattle.ospack_slots.proofs.Lengths.{has_length}
use Rattle.ospack_slots.proofs.length.length_at_front.Goals as goal

pub returns : goal.returns
returns c = has_length c.args.bytes.now c.requires (omega arith) (omega arith)
