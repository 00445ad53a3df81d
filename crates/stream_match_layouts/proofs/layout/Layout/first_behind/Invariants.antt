use Rattle.std.proofs.Common.{◌-◌, ◌<◌, ◌≤◌, ℕ, length}
use Rattle.stream_match_layouts.specs.Writers.{writers_on, writer_at, end_of}
use Rattle.stream_match_layouts.proofs.layout.Layout.first_behind.Given as goal

-- the spans before `low` end at or before the position, and those from `high` on reach past it
abbrev pub invariant-loop-low : goal.invariant-loop-low
invariant-loop-low l = record {
  ordered : l.low ≤ l.high;
  within : l.high ≤ length (writers_on l.self l.stream);
  before : (i : ℕ) → i < l.low → end_of (writer_at l.self l.stream i) ≤ l.position;
  behind : (i : ℕ) → l.high ≤ i → i < length (writers_on l.self l.stream) → l.position < end_of (writer_at l.self l.stream i);
}

abbrev pub decreases-loop-low : goal.decreases-loop-low
decreases-loop-low l = l.high - l.low
