use Rattle.std.proofs.Common.{◌≡◌}
use Rattle.os_lexer.specs.Reading.{line_end}
use Rattle.os_lexer.proofs.scans.line_end.Given as goal

abbrev pub invariant-loop-point : goal.invariant-loop-point
invariant-loop-point l = line_end l.bytes l.point ≡ line_end l.bytes l.from
