use Rattle.std.proofs.Common.{take}
use Rattle.oscheck.specs.Findings.{EachTold}
use Rattle.oscheck.specs.Warned.{IsWarningOf}
use Rattle.oscheck.proofs.warning.warnings_found.Given as goal

-- the findings so far tell the warnings so far
abbrev pub invariant-loop-number : goal.invariant-loop-number
invariant-loop-number l = EachTold (IsWarningOf l.text) (take l.number l.all) l.findings.items
