use Rattle.std.proofs.Common.{◌≡◌, length}
use Rattle.epoch_run_batches.proofs.batch.firsts_of.Given as goal

abbrev pub invariant-loop-number : goal.invariant-loop-number
invariant-loop-number l = length l.firsts ≡ length l.initial.firsts
