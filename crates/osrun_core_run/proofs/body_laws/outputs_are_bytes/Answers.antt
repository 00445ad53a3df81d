use Rattle.osrun_core_run.proofs.Bytes.{are_bytes}
use Rattle.osrun_core_run.proofs.body_laws.outputs_are_bytes.Goals as goal

pub returns : goal.returns
returns c activations input body gives = are_bytes activations input body gives
