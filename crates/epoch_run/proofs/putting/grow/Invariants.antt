use Rattle.std.proofs.Common.{◌≡◌, ℕ, ◌-◌, ◌≤◌, length}
use Rattle.flow_core_laws.specs.Outcome.{outcome_at}
use Rattle.epoch_run.proofs.putting.grow.Given as goal

abbrev pub invariant-growing : goal.invariant-growing
invariant-growing g l = record {
  few : length l.list ≤ l.count;
  same : (at : ℕ) → outcome_at l.list at ≡ outcome_at l.initial.list at;
}

abbrev pub decreases-growing : goal.decreases-growing
decreases-growing g l = l.count - length l.list
