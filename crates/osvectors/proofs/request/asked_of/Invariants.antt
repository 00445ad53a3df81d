use Rattle.std.proofs.Common.{◌-◌, ◌+◌, ◌≤◌, length}
use Rattle.osvectors.proofs.request.asked_of.Given as goal

abbrev pub invariant-loop-next : goal.invariant-loop-next
invariant-loop-next l = l.next ≤ length l.words + 1

abbrev pub decreases-loop-next : goal.decreases-loop-next
decreases-loop-next l = length l.words + 1 - l.next
