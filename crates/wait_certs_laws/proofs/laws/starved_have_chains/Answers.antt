use Rattle.wait_certs_laws.proofs.Walks as walks
use Rattle.wait_certs_laws.proofs.laws.starved_have_chains.Goals as goal

pub returns : goal.returns
returns c = walks.have_chains
