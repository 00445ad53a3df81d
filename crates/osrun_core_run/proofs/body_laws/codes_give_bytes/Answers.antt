use Rattle.osrun_core_run.proofs.MachineBytes.{code_gives}
use Rattle.osrun_core_run.proofs.body_laws.codes_give_bytes.Goals as goal

pub returns : goal.returns
returns c = code_gives c.tasks_end.ensures.there
