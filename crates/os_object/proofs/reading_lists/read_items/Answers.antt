use Rattle.std.proofs.Common.{◌<◌, length, arith}
use Rattle.os_object.specs.Object.{item_numbers}
use Rattle.os_object.proofs.Members.{no_length, no_member}
use Rattle.os_object.proofs.Parts.{ends-item}
use Rattle.os_object.proofs.reading_lists.read_items.Goals as goal

pub returns-in_default-clause-err : goal.returns-in_default-clause-err
returns-in_default-clause-err c = no_length item_numbers 3 (omega arith) (λ x. omega arith) c.args.numbers.now c.in_default.ensures.none

pub returns-in_default-read_item-clause-err : goal.returns-in_default-read_item-clause-err
returns-in_default-read_item-clause-err c =
    let short : length c.loop.items < c.in-Some.count = omega arith in
    no_member item_numbers ends-item c.loop.items c.loop.rest.now c.args.numbers.now c.in-Some.members.now c.in-Some.count c.in-Some.ensures.some c.loop.invariant.parts short
    c.in_default-read_item.ensures.none
