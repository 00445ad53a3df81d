use Rattle.epoch_run_bodies.proofs.Agreeing.{mean_one}
use Rattle.epoch_run_bodies.proofs.laws.agreeing_bodies_mean_one.Goals as goal

pub returns : goal.returns
returns c activations input body other agree = mean_one activations input body other agree
