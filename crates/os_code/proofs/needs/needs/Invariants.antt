use Rattle.os_code.specs.NeedTables.{stack_in, slots_in, Tells, IsTop}
use Rattle.os_code.proofs.needs.needs.Given as goal

abbrev pub invariant-loop-number : goal.invariant-loop-number
invariant-loop-number l = record {
  tells : Tells l.parts l.table.items l.number;
  stack : IsTop (stack_in l.table.items) l.number l.largest.stack;
  slots : IsTop (slots_in l.table.items) l.number l.largest.slots;
}
