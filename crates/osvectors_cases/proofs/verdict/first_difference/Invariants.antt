use Rattle.std.proofs.Common.{◌≡◌, ◌≤◌, length, take}
use Rattle.osvectors_cases.proofs.verdict.first_difference.Given as goal

-- up to here both are the same
abbrev pub invariant-loop-place : goal.invariant-loop-place
invariant-loop-place l = record {
  within : l.place ≤ length l.other;
  same : take l.place l.one ≡ take l.place l.other;
}
