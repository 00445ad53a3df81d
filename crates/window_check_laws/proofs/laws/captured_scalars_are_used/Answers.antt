use Rattle.window_check_laws.proofs.Collected.{captured-ascends}
use Rattle.window_check_laws.proofs.Named.{captured-members}
use Rattle.window_check_laws.proofs.laws.captured_scalars_are_used.Goals as goal

pub returns-clause-members : goal.returns-clause-members
returns-clause-members c s ps a x = captured-members s ps a x

pub returns-clause-ascending : goal.returns-clause-ascending
returns-clause-ascending c es ps a top h = captured-ascends es ps a top h
