use Rattle.std.proofs.Common.{◌≡◌, []}
use Rattle.std.specs.Prelude.{replicate}
use Rattle.epoch_run_in_order.proofs.streams.Streams.from_positions.Given as goal

abbrev pub invariant-loop : goal.invariant-loop
invariant-loop l = l.elements ≡ replicate l.counter []
