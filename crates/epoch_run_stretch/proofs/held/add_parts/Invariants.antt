use Rattle.std.specs.Prelude.{[], slice_index_or}
use Rattle.epoch_run_stretch.specs.Gathered.{HaveMore}
use Rattle.epoch_run_stretch.proofs.held.add_parts.Given as goal

abbrev pub invariant-loop-stream : goal.invariant-loop-stream
invariant-loop-stream l = HaveMore l.stream (λ s. slice_index_or l.parts s []) l.initial.elements l.elements
