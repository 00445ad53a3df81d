use Rattle.std.proofs.Common.{length, ◌-◌, ◌≤◌}
use Rattle.oscheck_places.specs.Lines.{IsOneLine}
use Rattle.oscheck_places.proofs.lines.line_end.Given as goal

abbrev pub invariant-loop-end : goal.invariant-loop-end
invariant-loop-end l = (l.point ≤ l.end) × (l.end ≤ length l.text) × IsOneLine l.text l.point l.end

abbrev pub decreases-loop-end : goal.decreases-loop-end
decreases-loop-end l = length l.text - l.end
