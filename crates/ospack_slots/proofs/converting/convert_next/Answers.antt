use Rattle.ospack_slots.proofs.converting.convert_next.Goals as goal

pub returns-in-Packing-clause-turn : goal.returns-in-Packing-clause-turn
returns-in-Packing-clause-turn g c = rw c.in-Packing.is c.pack_next.ensures.turn

pub returns-in-Unpacking-clause-turn : goal.returns-in-Unpacking-clause-turn
returns-in-Unpacking-clause-turn g c = rw c.in-Unpacking.is c.unpack_next.ensures.turn
