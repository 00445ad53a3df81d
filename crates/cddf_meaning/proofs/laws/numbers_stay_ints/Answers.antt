use Rattle.cddf_meaning.proofs.Ints.{file-fits, run-fits}
use Rattle.cddf_meaning.proofs.LeveledNumbers.{program-fits}
use Rattle.cddf_meaning.proofs.laws.numbers_stay_ints.Goals as goal

pub returns-clause-programs : goal.returns-clause-programs
returns-clause-programs c = program-fits

pub returns-clause-files : goal.returns-clause-files
returns-clause-files c = file-fits

pub returns-clause-statements : goal.returns-clause-statements
returns-clause-statements c = λ u a s turns g h f. run-fits u g a h s turns f
