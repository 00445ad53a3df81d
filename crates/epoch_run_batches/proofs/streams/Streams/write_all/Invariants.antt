use Rattle.std.proofs.Common.{◌≡◌, length}
use Rattle.epoch_run_batches.specs.Meant.{HoldMeant, Run}
use Rattle.epoch_run_batches.specs.Writes.{AreWritten}
use Rattle.epoch_run_batches.proofs.streams.Streams.write_all.Given as goal

abbrev pub invariant-loop-span : goal.invariant-loop-span
invariant-loop-span l = record {
  as_many : length l.self.firsts ≡ length l.self.elements;
  meant : (run : Run) → AreWritten run l.root l.outputs l.spans → HoldMeant run l.initial.self → HoldMeant run l.self;
}
