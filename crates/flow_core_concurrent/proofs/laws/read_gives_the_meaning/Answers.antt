use Rattle.flow_core_concurrent.proofs.Cells.{reads}
use Rattle.flow_core_concurrent.proofs.Deciding.{reads_decide}
use Rattle.flow_core_concurrent.proofs.laws.read_gives_the_meaning.Goals as goal

pub returns-clause-element : goal.returns-clause-element
returns-clause-element c = λ known state seat view run cell fit. reads known state seat view run cell

pub returns-clause-end : goal.returns-clause-end
returns-clause-end c = reads_decide
