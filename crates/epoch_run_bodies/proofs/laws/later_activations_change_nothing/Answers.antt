use Rattle.std.proofs.Common.{◌++◌}
use Rattle.epoch_run_bodies.proofs.Agreeing.{mean_one, more_agree}
use Rattle.epoch_run_bodies.proofs.laws.later_activations_change_nothing.Goals as goal
use Rattle.epoch_run_bodies.specs.Frames.{frame_outcome}

pub returns : goal.returns
returns c code activations more input budget =
    mean_one activations input (frame_outcome code activations budget) (frame_outcome code (activations ++ more) budget)
    (more_agree code activations more budget)
