use Rattle.flow_core_epochs.proofs.Opening.{has_epoch}
use Rattle.flow_core_epochs.proofs.Held.{held_at_first, begins_epoch, held_after}
use Rattle.flow_core_epochs.proofs.Parts.{all_is_a_part, ended_is_all}
use Rattle.flow_core_epochs.proofs.laws.run_in_epochs.Goals as goal

pub returns-clause-first : goal.returns-clause-first
returns-clause-first c = held_at_first

pub returns-clause-part : goal.returns-clause-part
returns-clause-part c = all_is_a_part

pub returns-clause-all : goal.returns-clause-all
returns-clause-all c = ended_is_all

pub returns-clause-begins : goal.returns-clause-begins
returns-clause-begins c = begins_epoch

pub returns-clause-ends : goal.returns-clause-ends
returns-clause-ends c = λ before new input body state readers frames kept plan places e ends output run held run_ends run_output. held_after before new input body state readers frames kept plan places (has_epoch before new input body state readers frames kept plan places e) ends output run held run_ends run_output
