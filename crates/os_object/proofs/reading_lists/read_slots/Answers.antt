use Rattle.std.proofs.Common.{◌<◌, length, arith}
use Rattle.os_object.specs.Object.{slot_numbers}
use Rattle.os_object.proofs.Members.{no_length, no_member}
use Rattle.os_object.proofs.Parts.{ends-slot}
use Rattle.os_object.proofs.reading_lists.read_slots.Goals as goal

pub returns-in_default-clause-err : goal.returns-in_default-clause-err
returns-in_default-clause-err c = no_length slot_numbers 1 (omega arith) ends-slot.some c.args.numbers.now c.in_default.ensures.none

pub returns-in_default-read_slot-clause-err : goal.returns-in_default-read_slot-clause-err
returns-in_default-read_slot-clause-err c =
    let short : length c.loop.slots < c.in-Some.count = omega arith in
    no_member slot_numbers ends-slot c.loop.slots c.loop.rest.now c.args.numbers.now c.in-Some.members.now c.in-Some.count c.in-Some.ensures.some c.loop.invariant.parts short
    c.in_default-read_slot.ensures.none
