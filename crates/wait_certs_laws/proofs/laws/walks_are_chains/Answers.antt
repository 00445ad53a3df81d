use Rattle.wait_certs_laws.proofs.Walks as walks
use Rattle.wait_certs_laws.proofs.laws.walks_are_chains.Goals as goal

pub returns : goal.returns
returns c = walks.walks_are_chains
