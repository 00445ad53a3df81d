use Rattle.std.proofs.Common.{◌≤◌}
use Rattle.epoch_run_batches.specs.Reads.{AreReadTo}
use Rattle.epoch_run_batches.specs.declared.inputs.Inputs.{Inputs}
use Rattle.epoch_run_batches.proofs.sources.Sources.read_rest.Given as goal

abbrev pub invariant-loop-k : goal.invariant-loop-k
invariant-loop-k g l = record {
  few : l.k ≤ l.span.count;
  read : (was : Inputs) → AreReadTo g.J.Meaning.run l.span l.done was l.initial.inputs → AreReadTo g.J.Meaning.run l.span l.k was l.inputs;
}
