use Rattle.std.proofs.Common.{◌≡◌, ◌++◌, take}
use Rattle.std.specs.List.{flat_map}
use Rattle.oscheck_reports.specs.Plain.{note_line}
use Rattle.oscheck_reports.proofs.plain.add_notes.Given as goal

-- the notes so far were added
abbrev pub invariant-loop-number : goal.invariant-loop-number
invariant-loop-number l = l.told ≡ l.initial.told ++ flat_map (note_line l.name) (take l.number l.notes)
