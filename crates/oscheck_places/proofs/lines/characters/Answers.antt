use Rattle.std.proofs.Common.{arith}
use Rattle.oscheck_places.proofs.Characters.{one_more}
use Rattle.oscheck_places.proofs.lines.characters.Goals as goal

pub loop-byte-preserved : goal.loop-byte-preserved
loop-byte-preserved c =
    let step = one_more c.args.bytes.now c.loop-byte.byte-index (omega arith) in
    (omega (arith, step, c.begun-count.ensures.exact, c.loop-byte.invariant.0), omega (arith, c.begun-count.ensures.few, c.loop-byte.invariant.1))
