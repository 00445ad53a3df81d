use Rattle.std.proofs.Common.{◌≡◌, max, drop}
use Rattle.os_code.specs.Needs.{most_called}
use Rattle.os_code.specs.NeedTables.{stack_in, slots_in}
use Rattle.os_code.proofs.needs.most_called_of.Given as goal

abbrev pub invariant-loop-instr : goal.invariant-loop-instr
invariant-loop-instr l = record {
  stack : max l.most.stack (most_called (stack_in l.table) (drop l.instr-index l.region)) ≡ most_called (stack_in l.table) l.region;
  slots : max l.most.slots (most_called (slots_in l.table) (drop l.instr-index l.region)) ≡ most_called (slots_in l.table) l.region;
}
