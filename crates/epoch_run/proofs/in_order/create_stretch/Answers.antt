use Rattle.std.proofs.Common.{arith}
use Rattle.stream_match_layouts.proofs.Sums.{frames_bound}
use Rattle.epoch_run.proofs.in_order.create_stretch.Goals as goal

pub overflow_cast-standing : goal.overflow_cast-standing
overflow_cast-standing c = omega (arith, frames_bound c.args.standing.now.layout c.requires.laid, c.frames.ensures)
