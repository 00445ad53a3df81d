use Rattle.std.proofs.Common.{◌≡◌}
use Rattle.os_lexer.specs.Reading.{blanks_end}
use Rattle.os_lexer.proofs.scans.blanks_end.Given as goal

abbrev pub invariant-loop-point : goal.invariant-loop-point
invariant-loop-point l = blanks_end l.bytes l.point ≡ blanks_end l.bytes l.from
