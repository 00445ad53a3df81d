use Rattle.std.proofs.Common.{◌≡◌}
use Rattle.os_lexer.specs.Reading.{comment_end}
use Rattle.os_lexer.proofs.scans.comment_end.Given as goal

abbrev pub invariant-loop-point : goal.invariant-loop-point
invariant-loop-point l = comment_end l.bytes l.point ≡ comment_end l.bytes l.from
