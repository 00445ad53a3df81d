use Rattle.std.proofs.Common.{◌<◌, length, arith}
use Rattle.os_object.specs.Object.{instr_numbers}
use Rattle.os_object.proofs.Members.{no_length, no_member}
use Rattle.os_object.proofs.Instrs.{ends-instr}
use Rattle.os_object.proofs.reading_lists.read_instrs.Goals as goal

pub returns-in_default-clause-err : goal.returns-in_default-clause-err
returns-in_default-clause-err c = no_length instr_numbers 1 (omega arith) ends-instr.some c.args.numbers.now c.in_default.ensures.none

pub returns-in_default-read_instr-clause-err : goal.returns-in_default-read_instr-clause-err
returns-in_default-read_instr-clause-err c =
    let short : length c.loop.instrs < c.in-Some.count = omega arith in
    no_member instr_numbers ends-instr c.loop.instrs c.loop.rest.now c.args.numbers.now c.in-Some.members.now c.in-Some.count c.in-Some.ensures.some c.loop.invariant.parts short
    c.in_default-read_instr.ensures.none
