-- What is written of a file for people: each finding with its line and a mark, and then the notes.
use Rattle.std.specs.Prelude.{ℕ, List, ◌++◌, Option, Some, None, codes, string_bytes}
use Rattle.std.specs.Fmt.{decimal}
use Rattle.std.specs.List.{flat_map}
use Rattle.oscheck_reports.specs.Checks.{code_of, severity_of}
use Rattle.oscheck_reports.specs.Notes.{note_text, severity_word}
use Rattle.oscheck_reports.specs.declared.finding.Finding.{Finding}
use Rattle.oscheck_reports.specs.declared.finding.Place.{Place}
use Rattle.oscheck_reports.specs.declared.finding.Place.TheVariants as place
use Rattle.oscheck_reports.specs.declared.note.Note.{Note}
use Rattle.oscheck_reports.specs.declared.report.Report.{Report}

-- where something was found, behind the name of the file
abbrev pub place_text : Place → List ℕ
place_text place.File = codes ""
place_text (place.Line line) = codes ":" ++ decimal line
place_text (place.Column line byte character) = codes ":" ++ decimal line ++ codes ":" ++ decimal byte

-- the number of an error
abbrev pub code_text : Option ℕ → List ℕ
code_text (Some code) = codes " " ++ decimal code
code_text None = codes ""

-- a finding: its place, what it is, the sentence, and the lines that show it
abbrev pub finding_text : List ℕ → Finding → List ℕ
finding_text name f =
    name ++ place_text f.place ++ codes ": " ++ severity_word (severity_of f.check) ++ code_text (code_of f.check) ++ codes ": " ++ string_bytes f.sentence
    ++ codes "\n" ++ f.excerpt.items

-- a note: the name of the file, and the sentence
abbrev pub note_line : List ℕ → Note → List ℕ
note_line name n = name ++ codes ": " ++ note_text n ++ codes "\n"

-- the findings in their order, and behind them the notes
abbrev pub text_form : Report → List ℕ
text_form r = flat_map (finding_text (string_bytes r.name)) r.findings.items ++ flat_map (note_line (string_bytes r.name)) r.notes.items
