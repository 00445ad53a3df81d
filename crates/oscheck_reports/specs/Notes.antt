-- What is told of a file as a whole.
use Rattle.std.specs.Prelude.{ℕ, ◌==◌, List, ◌++◌, Bool, true, false, codes, if◌then◌else◌}
use Rattle.std.specs.Fmt.{decimal}
use Rattle.oscheck_reports.specs.declared.check.Severity.{Severity}
use Rattle.oscheck_reports.specs.declared.check.Severity.TheVariants as severity
use Rattle.oscheck_reports.specs.declared.note.Note.{Note}
use Rattle.oscheck_reports.specs.declared.note.Note.TheVariants as notes

-- the word for how bad a finding is
abbrev pub severity_word : Severity → List ℕ
severity_word severity.Error = codes "error"
severity_word severity.Warning = codes "warning"

-- one more, or several
abbrev pub plural : ℕ → List ℕ
plural count = if count == 1 then codes "" else codes "s"

-- a note as a sentence
abbrev pub note_text : Note → List ℕ
note_text (notes.More worst count) = decimal count ++ codes " more " ++ severity_word worst ++ plural count
note_text notes.Accepted = codes "accepted"
note_text notes.RefusedForWarnings = codes "refused for its warnings"
note_text notes.Unreadable = codes "can't be read"
note_text notes.NoOption = codes "no option, and no file that can be read"
note_text notes.NoName = codes "its name isn't text"
note_text notes.NoMemory = codes "memory ran out"

-- it tells why a file was not judged
abbrev pub is_failure : Note → Bool
is_failure (notes.More worst count) = false
is_failure notes.Accepted = false
is_failure notes.RefusedForWarnings = false
is_failure notes.Unreadable = true
is_failure notes.NoOption = true
is_failure notes.NoName = true
is_failure notes.NoMemory = true

-- it tells that nothing is wrong
abbrev pub is_accepted : Note → Bool
is_accepted notes.Accepted = true
is_accepted (notes.More worst count) = false
is_accepted notes.RefusedForWarnings = false
is_accepted notes.Unreadable = false
is_accepted notes.NoOption = false
is_accepted notes.NoName = false
is_accepted notes.NoMemory = false
