use Rattle.std.proofs.Common.{◌+◌, ◌-◌, length, map}
use Rattle.osvectors_cases.specs.Cases.{numbered_of}
use Rattle.osvectors_cases.proofs.Said.{IsReadTo}
use Rattle.osvectors_cases.proofs.cases.read_cases.Given as goal

abbrev pub invariant-loop-next : goal.invariant-loop-next
invariant-loop-next l = IsReadTo l.text l.next l.number (map numbered_of l.cases.items)

abbrev pub decreases-loop-next : goal.decreases-loop-next
decreases-loop-next l = length l.text + 1 - l.next
