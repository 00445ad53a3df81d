use Rattle.std.proofs.Common.{arith, take, length-take}
use Rattle.osparts_parts.proofs.Held.{pushed_more}
use Rattle.osparts_parts.proofs.buffer.PartBuffer.push.Goals as goal

pub returns-clause-pushes : goal.returns-clause-pushes
returns-clause-pushes c = λ pushed parts h.
    pushed_more c.args.self.now.terms c.args.self.now.place c.args.self.now.bytes.items c.extend_from_slice.new.self.items
    pushed (take c.min-count.result c.args.piece.now) parts h
    (omega (arith, length-take c.min-count.result c.args.piece.now, c.min-count.ensures, c.room.ensures))
    c.in_ok-extend_from_slice.ensures.items
