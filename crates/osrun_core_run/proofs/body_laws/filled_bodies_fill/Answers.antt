use Rattle.osrun_core_run.proofs.Filling.{filled}
use Rattle.osrun_core_run.proofs.body_laws.filled_bodies_fill.Goals as goal

pub returns : goal.returns
returns c activations input body fills a x o at is done = filled activations input body fills a x o at is done
