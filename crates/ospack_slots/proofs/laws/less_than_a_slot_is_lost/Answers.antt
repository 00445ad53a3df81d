use Rattle.ospack_slots.proofs.Unended.{pieces_short, slots_short}
use Rattle.ospack_slots.proofs.laws.less_than_a_slot_is_lost.Goals as goal

pub returns-clause-slots : goal.returns-clause-slots
returns-clause-slots c = slots_short

pub returns-clause-pieces : goal.returns-clause-pieces
returns-clause-pieces c = pieces_short
