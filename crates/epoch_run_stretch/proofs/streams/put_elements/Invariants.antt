use Rattle.std.proofs.Common.{◌≡◌, ℕ, length}
use Rattle.epoch_run_batches.specs.Meant.{AreMeant, Run}
use Rattle.epoch_run_stretch.proofs.streams.put_elements.Given as goal

abbrev pub invariant-loop-place : goal.invariant-loop-place
invariant-loop-place l = record {
  count : length l.elements ≡ length l.initial.elements;
  meant : (run : Run) (stream : ℕ) → AreMeant run stream l.first l.held → AreMeant run stream l.from l.initial.elements
      → AreMeant run stream l.from l.elements;
}
