use Rattle.epoch_run_stretch.specs.Consecutive.{AreConsecutive}
use Rattle.epoch_run_stretch.proofs.consecutive.are_consecutive.Given as goal

abbrev pub invariant-loop-stream : goal.invariant-loop-stream
invariant-loop-stream l = AreConsecutive l.firsts l.elements l.layout l.outcomes l.stream
