use Rattle.std.proofs.Common.{take}
use Rattle.flow_core.specs.Gathered.{AreGathered}
use Rattle.flow_core.proofs.cells.gather_all.Given as goal

abbrev pub invariant-loop-cell : goal.invariant-loop-cell
invariant-loop-cell l = AreGathered (take l.cell-index l.cells) l.least l.into.items
