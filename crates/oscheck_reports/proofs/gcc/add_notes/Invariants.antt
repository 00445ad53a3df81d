use Rattle.std.proofs.Common.{◌≡◌, ◌++◌, take}
use Rattle.std.specs.List.{flat_map}
use Rattle.oscheck_reports.specs.Gcc.{told_note}
use Rattle.oscheck_reports.proofs.gcc.add_notes.Given as goal

-- the notes so far were added
abbrev pub invariant-loop-number : goal.invariant-loop-number
invariant-loop-number l = l.told ≡ l.initial.told ++ flat_map (told_note l.name) (take l.number l.notes)
