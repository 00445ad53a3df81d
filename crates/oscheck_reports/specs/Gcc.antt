-- What is written of a file as gcc would: a line for each finding.
use Rattle.std.specs.Prelude.{ℕ, List, ◌++◌, codes, string_bytes, if◌then◌else◌}
use Rattle.std.specs.Fmt.{decimal}
use Rattle.std.specs.List.{flat_map}
use Rattle.oscheck_reports.specs.Checks.{name_of, severity_of}
use Rattle.oscheck_reports.specs.Notes.{is_accepted, severity_word}
use Rattle.oscheck_reports.specs.Places.{byte_of, line_of}
use Rattle.oscheck_reports.specs.Plain.{note_line}
use Rattle.oscheck_reports.specs.declared.finding.Finding.{Finding}
use Rattle.oscheck_reports.specs.declared.note.Note.{Note}
use Rattle.oscheck_reports.specs.declared.report.Report.{Report}

-- a finding: file, line and column, `error` or `warning`, the sentence, and the name of the check
abbrev pub finding_line : List ℕ → Finding → List ℕ
finding_line name f =
    name ++ codes ":" ++ decimal (line_of f.place) ++ codes ":" ++ decimal (byte_of f.place) ++ codes ": " ++ severity_word (severity_of f.check)
    ++ codes ": " ++ string_bytes f.sentence ++ codes " [" ++ name_of f.check ++ codes "]\n"

-- a note, where it doesn't tell that all is well
abbrev pub told_note : List ℕ → Note → List ℕ
told_note name n = if is_accepted n then codes "" else note_line name n

-- the findings in their order, and behind them the notes
abbrev pub gcc_form : Report → List ℕ
gcc_form r = flat_map (finding_line (string_bytes r.name)) r.findings.items ++ flat_map (told_note (string_bytes r.name)) r.notes.items
