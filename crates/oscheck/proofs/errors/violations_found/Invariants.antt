use Rattle.std.proofs.Common.{take}
use Rattle.oscheck.specs.Findings.{EachTold, IsFindingOf}
use Rattle.oscheck.proofs.errors.violations_found.Given as goal

-- the findings so far tell the violations so far
abbrev pub invariant-loop-number : goal.invariant-loop-number
invariant-loop-number l = EachTold (IsFindingOf l.judging.text.now l.judging.tokens.now) (take l.number l.all) l.findings.items
