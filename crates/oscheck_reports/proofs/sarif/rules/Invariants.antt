use Rattle.std.proofs.Common.{◌≡◌, take, map}
use Rattle.serde_json.specs.View.{view}
use Rattle.oscheck_reports.specs.Checks.{all_checks}
use Rattle.oscheck_reports.specs.Sarif.{rule_value}
use Rattle.oscheck_reports.proofs.sarif.rules.Given as goal

-- the checks so far were added
abbrev pub invariant-loop-check : goal.invariant-loop-check
invariant-loop-check l = map view l.values.items ≡ map rule_value (take l.check-index all_checks)
