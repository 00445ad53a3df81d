use Rattle.std.proofs.Common.{◌≡◌, ◌∷◌, ◌++◌, length, take}
use Rattle.std.specs.List.{flat_map, AllByRecursion}
use Rattle.os_object.specs.Object.{number, instr_numbers, IsInstr}
use Rattle.os_object.proofs.writing.write_instrs.Given as goal

abbrev pub invariant-loop-instr : goal.invariant-loop-instr
invariant-loop-instr l = record {
  written : l.object.items ≡ l.fn.object.items ++ flat_map number (length l.instrs ∷ flat_map instr_numbers (take l.instr-index l.instrs));
  are_instrs : AllByRecursion IsInstr (take l.instr-index l.instrs);
}
