use Rattle.std.proofs.Common.{◌≤◌}
use Rattle.oscheck_places.specs.Lines.{IsOneLine}
use Rattle.oscheck_places.proofs.lines.line_start.Given as goal

abbrev pub invariant-loop-start : goal.invariant-loop-start
invariant-loop-start l = (l.start ≤ l.point) × IsOneLine l.text l.start l.point

abbrev pub decreases-loop-start : goal.decreases-loop-start
decreases-loop-start l = l.start
