use Rattle.std.proofs.Common.{◌≡◌, length}
use Rattle.epoch_run_ready.proofs.unreached.lower_new.Given as goal

abbrev pub invariant-loop-activation : goal.invariant-loop-activation
invariant-loop-activation l = length l.low ≡ length l.initial.low
