use Rattle.std.proofs.Common.{take}
use Rattle.epoch_run_batches.specs.Reads.{AreRead, covered_by}
use Rattle.epoch_run_batches.proofs.sources.Sources.read_all.Given as goal

abbrev pub invariant-loop-span : goal.invariant-loop-span
invariant-loop-span g l = AreRead (covered_by g.J.Meaning.run (take l.span-index l.spans)) l.inputs
