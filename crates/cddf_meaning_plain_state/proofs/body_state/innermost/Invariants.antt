use Rattle.std.proofs.Common.{◌≡◌, ◌≤◌, drop, length, reverse, None}
use Rattle.cddf_meaning.specs.Variables.{find}
use Rattle.cddf_meaning_plain_state.proofs.body_state.innermost.Given as goal

abbrev pub invariant-loop-place : goal.invariant-loop-place
invariant-loop-place l = (l.place ≤ length l.bound) × (find (reverse (drop l.place l.bound)) l.id ≡ None)

abbrev pub decreases-loop-place : goal.decreases-loop-place
decreases-loop-place l = l.place
