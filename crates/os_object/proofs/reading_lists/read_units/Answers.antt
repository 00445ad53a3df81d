use Rattle.std.proofs.Common.{◌<◌, length, arith}
use Rattle.os_object.specs.Object.{unit_numbers}
use Rattle.os_object.proofs.Members.{no_length, no_member}
use Rattle.os_object.proofs.Parts.{ends-unit}
use Rattle.os_object.proofs.reading_lists.read_units.Goals as goal

pub returns-in_default-clause-err : goal.returns-in_default-clause-err
returns-in_default-clause-err c = no_length unit_numbers 4 (omega arith) (λ x. omega arith) c.args.numbers.now c.in_default.ensures.none

pub returns-in_default-read_unit-clause-err : goal.returns-in_default-read_unit-clause-err
returns-in_default-read_unit-clause-err c =
    let short : length c.loop.units < c.in-Some.count = omega arith in
    no_member unit_numbers ends-unit c.loop.units c.loop.rest.now c.args.numbers.now c.in-Some.members.now c.in-Some.count c.in-Some.ensures.some c.loop.invariant.parts short
    c.in_default-read_unit.ensures.none
