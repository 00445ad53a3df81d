use Rattle.wait_certs_laws.proofs.Starving as starving
use Rattle.wait_certs_laws.proofs.laws.members_starve.Goals as goal

pub returns : goal.returns
returns c = starving.members_starve
