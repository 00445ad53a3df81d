use Rattle.std.proofs.Common.{arith}
use Rattle.stream_match_layouts.proofs.Sums.{frames_bound}
use Rattle.epoch_run_stretch.proofs.cut.Cut.batch.Goals as goal

pub overflow_cast-frames : goal.overflow_cast-frames
overflow_cast-frames c = omega (arith, frames_bound c.args.layout.now c.requires, c.frames.ensures)
