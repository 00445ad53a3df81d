use Rattle.std.proofs.Common.{◌≡◌, ◌+◌, ◌≤◌, length, reverse, take}
use Rattle.cddf_meaning.specs.Claims.{since_read}
use Rattle.cddf_meaning_plain_state.proofs.body_state.since_read.Given as goal

-- what was counted, and what stands before it
abbrev pub invariant-loop-place : goal.invariant-loop-place
invariant-loop-place l = (l.place ≤ length l.moves) × (since_read l.stream (reverse (take l.place l.moves)) + l.sum ≡ since_read l.stream (reverse l.moves))

abbrev pub decreases-loop-place : goal.decreases-loop-place
decreases-loop-place l = l.place
