-- Counts of events, which stand still at their last value.
use Rattle.std.specs.Prelude.{ℕ, ◌+◌, ◌-◌, ◌^◌, ◌≤◌, min}

-- the last value of a count
abbrev pub last_count : ℕ
last_count = 2 ^ 64 - 1

-- the count after `by` more events
abbrev pub raised : ℕ → ℕ → ℕ
raised count by = min (count + by) last_count

-- at least one event came between; a count at its last value is taken as risen
abbrev pub HasRisen : ℕ → ℕ → Type 0
HasRisen before after = raised before 1 ≤ after
