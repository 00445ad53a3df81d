use Rattle.std.proofs.Common.{◌≡◌, length}
use Rattle.epoch_run_ready.proofs.unreached.unreached.Given as goal

abbrev pub invariant-loop : goal.invariant-loop
invariant-loop l = length l.low.items ≡ length l.layout.writers
