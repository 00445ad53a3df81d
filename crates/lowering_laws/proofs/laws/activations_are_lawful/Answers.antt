use Rattle.lowering_laws.proofs.Created.{codes, programs}
use Rattle.lowering_laws.proofs.laws.activations_are_lawful.Goals as goal

pub returns-clause-programs : goal.returns-clause-programs
returns-clause-programs c = programs c.programs_have_codes.ensures

pub returns-clause-codes : goal.returns-clause-codes
returns-clause-codes c = codes
