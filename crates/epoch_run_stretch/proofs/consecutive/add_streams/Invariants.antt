use Rattle.epoch_run_stretch.specs.Consecutive.{elements_in}
use Rattle.epoch_run_stretch.specs.Gathered.{HaveMore}
use Rattle.epoch_run_stretch.proofs.consecutive.add_streams.Given as goal

abbrev pub invariant-loop-stream : goal.invariant-loop-stream
invariant-loop-stream l = HaveMore l.stream (λ stream. elements_in stream l.outcomes) l.initial.elements l.elements
