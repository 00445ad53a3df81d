use Rattle.std.proofs.Common.{◌≡◌, ◌++◌, take, map, string_bytes}
use Rattle.std.specs.List.{flat_map}
use Rattle.serde_json.specs.View.{view}
use Rattle.oscheck_reports.specs.Sarif.{told_values}
use Rattle.oscheck_reports.proofs.sarif.add_notes.Given as goal

-- the notes so far were added
abbrev pub invariant-loop-number : goal.invariant-loop-number
invariant-loop-number l = map view l.values.items ≡ map view l.initial.values.items ++ flat_map (told_values (string_bytes l.report.name)) (take l.number l.report.notes.items)
