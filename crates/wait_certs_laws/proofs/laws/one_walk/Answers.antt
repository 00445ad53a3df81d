use Rattle.wait_certs_laws.proofs.OneWalk as walks
use Rattle.wait_certs_laws.proofs.laws.one_walk.Goals as goal

pub returns : goal.returns
returns c = walks.one_walk
