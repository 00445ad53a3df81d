use Rattle.std.proofs.Common.{◌≡◌, None, length, take}
use Rattle.flow_core.specs.Gathered.{AreGathered}
use Rattle.flow_core.proofs.cells.put_values.Given as goal

-- the cells so far hold values, which stand in their places
abbrev pub invariant-loop-number : goal.invariant-loop-number
invariant-loop-number l = record {
  room : length l.into ≡ length l.cells;
  put : AreGathered (take l.number l.cells) None (take l.number l.into);
}
