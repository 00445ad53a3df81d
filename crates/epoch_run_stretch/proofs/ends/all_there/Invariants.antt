use Rattle.std.proofs.Common.{ℕ, ◌<◌, Option, IsSome, get_or}
use Rattle.epoch_run_stretch.proofs.ends.all_there.Given as goal

abbrev pub invariant-loop-item : goal.invariant-loop-item
invariant-loop-item g l = (k : ℕ) (d : Option _) → k < l.item-index → IsSome (get_or l.items k d)
