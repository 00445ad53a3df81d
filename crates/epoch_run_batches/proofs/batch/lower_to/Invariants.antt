use Rattle.std.proofs.Common.{◌≡◌, length}
use Rattle.epoch_run_batches.proofs.batch.lower_to.Given as goal

abbrev pub invariant-loop-span : goal.invariant-loop-span
invariant-loop-span l = length l.firsts ≡ length l.initial.firsts
