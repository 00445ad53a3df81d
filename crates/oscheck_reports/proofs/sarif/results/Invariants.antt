use Rattle.std.proofs.Common.{◌≡◌, take, map}
use Rattle.std.specs.List.{flat_map}
use Rattle.serde_json.specs.View.{view}
use Rattle.oscheck_reports.specs.Sarif.{finding_values}
use Rattle.oscheck_reports.proofs.sarif.results.Given as goal

-- the files so far were gone over
abbrev pub invariant-loop-number : goal.invariant-loop-number
invariant-loop-number l = map view l.values.items ≡ flat_map finding_values (take l.number l.reports)
