use Rattle.std.proofs.Common.{◌-◌, ◌<◌, ◌≤◌, ℕ, length}
use Rattle.lowering_draft.specs.Ascending.{name_at}
use Rattle.lowering_draft.proofs.told.Told.at.Given as goal

-- the names before `low` have smaller places, those from `high` on have greater ones
abbrev pub invariant-loop-low : goal.invariant-loop-low
invariant-loop-low l = record {
  ordered : l.low ≤ l.high;
  within : l.high ≤ length l.names;
  before : (i : ℕ) → i < l.low → (name_at l.names i).place < l.place;
  behind : (i : ℕ) → l.high ≤ i → i < length l.names → l.place < (name_at l.names i).place;
}

abbrev pub decreases-loop-low : goal.decreases-loop-low
decreases-loop-low l = l.high - l.low
