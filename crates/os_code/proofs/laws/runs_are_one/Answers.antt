use Rattle.os_code.proofs.Halting.{runs_are_one}
use Rattle.os_code.proofs.laws.runs_are_one.Goals as goal

pub returns : goal.returns
returns c = runs_are_one
