use Rattle.std.proofs.Common.{◌≡◌, length}
use Rattle.epoch_run_batches.specs.Meant.{AreEndsMeant, HoldMeant}
use Rattle.epoch_run_batches.proofs.batch.run_numbers.Given as goal

abbrev pub invariant-loop-number : goal.invariant-loop-number
invariant-loop-number g l = record {
  as_many : length l.own.firsts ≡ length l.own.elements;
  meant : HoldMeant g.J.Meaning.run l.own;
  ends : AreEndsMeant g.J.Meaning.run l.ended;
  fitting : g.B.LocalBodies.fits l.workload.bodies.now l.scratch;
}
