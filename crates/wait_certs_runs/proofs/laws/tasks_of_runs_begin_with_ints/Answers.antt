use Rattle.wait_certs_runs.proofs.Types.{begin}
use Rattle.wait_certs_runs.proofs.laws.tasks_of_runs_begin_with_ints.Goals as goal

pub returns : goal.returns
returns c =
    begin c.activations_are_lawful.ensures.programs c.captured_stay_ints.ensures c.tasks_begin_with_ints.ensures c.bodies_give_ints.ensures
    c.activations_read_ints.ensures
