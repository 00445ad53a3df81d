use Rattle.std.proofs.Common.{take}
use Rattle.os_serve_jobs.specs.Lines.{IsLine}
use Rattle.os_serve_jobs.proofs.cutting.first_feed.Given as goal

-- none stands before
abbrev pub invariant-loop-n : goal.invariant-loop-n
invariant-loop-n l = IsLine (take l.n l.bytes)
