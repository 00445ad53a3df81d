use Rattle.os_ast.proofs.Chains.{no_chain_at_the_right}
use Rattle.os_ast.proofs.laws.chains_are_flat.Goals as goal

pub returns-clause-right : goal.returns-clause-right
returns-clause-right c = no_chain_at_the_right
