use Rattle.std.proofs.Common.{arith}
use Rattle.std.proofs.lemmas.Grind.{common_steps}
use Rattle.os_io.proofs.Pieces.{append_known-piece}
use Rattle.os_io.proofs.writing.write_whole.Goals as goal

pub loop-written-preserved : goal.loop-written-preserved
loop-written-preserved g c =
    let piece = append_known-piece (g.S.Sink.taken c.args.sink.now) c.args.bytes.now c.loop-written.written c.in_ok-count.count in
    record {
      within = grind (arith, common_steps);
      taken = cc (piece, c.in_ok-count.ensures.taken, c.loop-written.invariant.taken);
      no_fault = grind (arith, common_steps);
      empty_takes = grind (arith, common_steps);
    }
