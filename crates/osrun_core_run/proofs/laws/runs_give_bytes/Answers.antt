use Rattle.osrun_core_run.proofs.RunLaws.{only_bytes}
use Rattle.osrun_core_run.proofs.laws.runs_give_bytes.Goals as goal

pub returns : goal.returns
returns c = only_bytes c.turns_never_grow.ensures.statements c.outputs_are_bytes.ensures
