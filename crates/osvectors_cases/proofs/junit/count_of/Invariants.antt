use Rattle.std.proofs.Common.{◌≡◌, ◌≤◌, length, map, take}
use Rattle.std.specs.Prelude.{filter}
use Rattle.osvectors_cases.specs.Reports.{has_outcome, row_of}
use Rattle.osvectors_cases.proofs.junit.count_of.Given as goal

-- those so far are counted
abbrev pub invariant-loop-row : goal.invariant-loop-row
invariant-loop-row l = record {
  within : l.count ≤ l.row-index;
  counted : l.count ≡ length (filter (has_outcome l.outcome) (map row_of (take l.row-index l.rows)));
}
