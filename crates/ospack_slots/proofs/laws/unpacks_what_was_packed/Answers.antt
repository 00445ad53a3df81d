use Rattle.ospack_slots.proofs.Parts.{packs, unpacks, back, saves}
use Rattle.ospack_slots.proofs.laws.unpacks_what_was_packed.Goals as goal

pub returns-clause-packed : goal.returns-clause-packed
returns-clause-packed c = λ size bytes payloads are. packs are

pub returns-clause-unpacked : goal.returns-clause-unpacked
returns-clause-unpacked c = λ size bytes payloads are. unpacks are

pub returns-clause-back : goal.returns-clause-back
returns-clause-back c = λ size bytes payloads are. back are

pub returns-clause-saves : goal.returns-clause-saves
returns-clause-saves c = λ size bytes payloads are. saves are
