use Rattle.std.proofs.Common.{◌≡◌, ◌++◌, take, map}
use Rattle.serde_json.specs.View.{view}
use Rattle.oscheck_reports.specs.Sarif.{finding_value}
use Rattle.oscheck_reports.proofs.sarif.add_findings.Given as goal

-- the findings so far were added
abbrev pub invariant-loop-number : goal.invariant-loop-number
invariant-loop-number l = map view l.values.items ≡ map view l.initial.values.items ++ map (finding_value l.uri) (take l.number l.findings)
