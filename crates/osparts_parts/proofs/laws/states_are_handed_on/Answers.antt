use Rattle.osparts_parts.proofs.Handed.{one_more_input, one_more_output}
use Rattle.osparts_parts.proofs.Joining.{state_after_one_more}
use Rattle.osparts_parts.proofs.laws.states_are_handed_on.Goals as goal

pub returns-clause-ends : goal.returns-clause-ends
returns-clause-ends c = state_after_one_more

pub returns-clause-given : goal.returns-clause-given
returns-clause-given c = one_more_input

pub returns-clause-stay : goal.returns-clause-stay
returns-clause-stay c = one_more_output
