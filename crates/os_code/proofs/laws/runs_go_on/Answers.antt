use Rattle.os_code.proofs.Halting.{runs_go_on, steps_add_up}
use Rattle.os_code.proofs.laws.runs_go_on.Goals as goal

pub returns : goal.returns
returns c = record { runs = runs_go_on; steps = steps_add_up }
