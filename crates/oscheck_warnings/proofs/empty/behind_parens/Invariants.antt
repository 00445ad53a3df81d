use Rattle.std.proofs.Common.{◌≡◌, ◌≤◌, ◌+◌, drop}
use Rattle.oscheck_warnings.specs.EmptyBodies.{behind_parens}
use Rattle.oscheck_warnings.proofs.empty.behind_parens.Given as goal

abbrev pub invariant-loop-place : goal.invariant-loop-place
invariant-loop-place l = (behind_parens l.depth l.point (drop l.place l.tokens) ≡ behind_parens 1 0 (drop l.from l.tokens)) × (l.depth ≤ l.place + 1)
