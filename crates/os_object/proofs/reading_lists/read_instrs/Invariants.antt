use Rattle.std.proofs.Common.{◌≡◌, ◌++◌, length}
use Rattle.std.specs.List.{flat_map, AllByRecursion}
use Rattle.os_object.specs.Object.{instr_numbers, IsInstr}
use Rattle.os_object.proofs.reading_lists.read_instrs.Given as goal

abbrev pub invariant-loop : goal.invariant-loop
invariant-loop l = record {
  parts : l.initial.rest ≡ flat_map instr_numbers l.instrs ++ l.rest;
  counted : length l.instrs ≡ l.counter;
  are_instrs : AllByRecursion IsInstr l.instrs;
}
