use Rattle.std.proofs.Common.{◌≡◌, ◌+◌, ◌++◌, drop, map}
use Rattle.osvectors_cases.specs.Reports.{row_of}
use Rattle.osvectors_cases.specs.Tap.{tap_lines}
use Rattle.osvectors_cases.proofs.tap.add_all.Given as goal

-- those so far were added
abbrev pub invariant-loop-place : goal.invariant-loop-place
invariant-loop-place l = l.told ++ tap_lines (l.place + 1) (map row_of (drop l.place l.rows)) ≡ l.initial.told ++ tap_lines 1 (map row_of l.rows)
