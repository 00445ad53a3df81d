use Rattle.std.proofs.Common.{◌≡◌}
use Rattle.os_lexer.specs.Reading.{run_end}
use Rattle.os_lexer.proofs.scans.run_end.Given as goal

abbrev pub invariant-loop-point : goal.invariant-loop-point
invariant-loop-point l = run_end l.bytes l.point ≡ run_end l.bytes l.from
