use Rattle.std.proofs.Common.{◌≡◌, ◌++◌, take}
use Rattle.std.specs.List.{flat_map}
use Rattle.oscheck_reports.specs.Plain.{finding_text}
use Rattle.oscheck_reports.proofs.plain.add_findings.Given as goal

-- the findings so far were added
abbrev pub invariant-loop-number : goal.invariant-loop-number
invariant-loop-number l = l.told ≡ l.initial.told ++ flat_map (finding_text l.name) (take l.number l.findings)
