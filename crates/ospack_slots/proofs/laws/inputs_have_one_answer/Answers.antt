use Rattle.ospack_slots.proofs.Divisions.{slots_once, pieces_once}
use Rattle.ospack_slots.proofs.laws.inputs_have_one_answer.Goals as goal

pub returns-clause-slots : goal.returns-clause-slots
returns-clause-slots c = slots_once

pub returns-clause-pieces : goal.returns-clause-pieces
returns-clause-pieces c = pieces_once
