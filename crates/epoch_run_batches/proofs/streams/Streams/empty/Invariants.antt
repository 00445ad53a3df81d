use Rattle.std.proofs.Common.{◌≡◌, [], replicate}
use Rattle.epoch_run_batches.proofs.streams.Streams.empty.Given as goal

abbrev pub invariant-loop : goal.invariant-loop
invariant-loop l = l.elements ≡ replicate l.counter []
