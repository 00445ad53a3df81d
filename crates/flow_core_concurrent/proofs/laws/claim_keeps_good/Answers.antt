use Rattle.flow_core_concurrent.proofs.Claims.{claim_keeps}
use Rattle.flow_core_concurrent.proofs.laws.claim_keeps_good.Goals as goal

pub returns : goal.returns
returns c = claim_keeps
