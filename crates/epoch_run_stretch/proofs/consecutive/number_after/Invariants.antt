use Rattle.std.proofs.Common.{◌≡◌, ◌+◌, ◌<◌, ℕ, Some}
use Rattle.std.specs.Prelude.{slice_get}
use Rattle.epoch_run_batches.specs.declared.ended.Ended.{Ended}
use Rattle.epoch_run_stretch.proofs.consecutive.number_after.Given as goal

abbrev pub invariant-loop-ended : goal.invariant-loop-ended
invariant-loop-ended l = record {
  number : l.number ≡ l.first + l.ended-index;
  numbers : (k : ℕ) (e : Ended) → k < l.ended-index → slice_get l.ended k ≡ Some e → e.number ≡ l.first + k;
}
