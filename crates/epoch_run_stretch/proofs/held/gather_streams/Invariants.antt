use Rattle.epoch_run_stretch.specs.Gathered.{AreGathered}
use Rattle.epoch_run_stretch.proofs.held.gather_streams.Given as goal

abbrev pub invariant-loop-stream : goal.invariant-loop-stream
invariant-loop-stream l = AreGathered l.firsts l.elements l.layout l.outcomes l.stream l.parts
