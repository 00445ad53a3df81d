-- Reports as one value of SARIF 2.1.0 (Static Analysis Results Interchange Format, OASIS): one run of one tool, whose results are the
-- findings of all files. The members of an object stand in the order of their keys.
use Rattle.std.specs.Prelude.{ℕ, List, [], ◌∷◌, ◌++◌, Bool, not, ◌==◌, map, codes, string_bytes, if◌then◌else◌}
use Rattle.std.specs.List.{flat_map, list_any}
use Rattle.percent_encoding.specs.Percent.{percent_encode}
use Rattle.serde_json.specs.Data.{Data, boolean, number, unsigned, string, array, object, no_items, item, no_members, member}
use Rattle.serde_json.specs.View.{items_of}
use Rattle.serde_json.specs.Written.{compact_text}
use Rattle.oscheck_reports.specs.Checks.{all_checks, name_of, severity_of, summary_of}
use Rattle.oscheck_reports.specs.Notes.{is_accepted, is_failure, note_text, severity_word}
use Rattle.oscheck_reports.specs.Places.{character_of, line_of}
use Rattle.oscheck_reports.specs.declared.check.Check.{Check}
use Rattle.oscheck_reports.specs.declared.finding.Finding.{Finding}
use Rattle.oscheck_reports.specs.declared.finding.Place.{Place}
use Rattle.oscheck_reports.specs.declared.note.Note.{Note}
use Rattle.oscheck_reports.specs.declared.report.Report.{Report}
use Rattle.oscheck_reports.specs.declared.uri.TheConstants.{PATH}

-- an object with one member
abbrev pub only : List ℕ → Data → Data
only key value = object (member key value no_members)

-- The name of a file as a reference: what isn't a letter, a digit, `-`, `.`, `_`, `~` or `/` is escaped, and a name from the root on is
-- one of the scheme `file`.
abbrev pub scheme_of : List ℕ → List ℕ
scheme_of [] = []
scheme_of (first ∷ name) = if first == 47 then codes "file://" else []

abbrev pub uri_of : List ℕ → List ℕ
uri_of name = scheme_of name ++ percent_encode PATH name

-- a text that is shown
abbrev pub message : List ℕ → Data
message text = only (codes "text") (string text)

-- what is known of a check
abbrev pub rule_value : Check → Data
rule_value c = object (member (codes "id") (string (name_of c)) (member (codes "shortDescription") (message (summary_of c)) no_members))

abbrev pub region : Place → Data
region p =
    object (member (codes "startColumn") (number (unsigned (character_of p))) (member (codes "startLine") (number (unsigned (line_of p))) no_members))

abbrev pub location : List ℕ → Place → Data
location uri p =
    only (codes "physicalLocation")
    (object (member (codes "artifactLocation") (only (codes "uri") (string uri)) (member (codes "region") (region p) no_members)))

-- a finding
abbrev pub finding_value : List ℕ → Finding → Data
finding_value uri f =
    object (member (codes "level") (string (severity_word (severity_of f.check)))
    (member (codes "locations") (array (item (location uri f.place) no_items))
    (member (codes "message") (message (string_bytes f.sentence))
    (member (codes "ruleId") (string (name_of f.check)) no_members))))

-- the findings of a file
abbrev pub finding_values : Report → List Data
finding_values r = map (finding_value (uri_of (string_bytes r.name))) r.findings.items

abbrev pub note_level : Note → List ℕ
note_level n = if is_failure n then codes "error" else codes "note"

-- a note on a file, which is named in it
abbrev pub note_value : List ℕ → Note → Data
note_value name n =
    object (member (codes "level") (string (note_level n)) (member (codes "message") (message (name ++ codes ": " ++ note_text n)) no_members))

-- that all is well is no value
abbrev pub told_values : List ℕ → Note → List Data
told_values name n = if is_accepted n then [] else note_value name n ∷ []

-- the notes on a file
abbrev pub note_values : Report → List Data
note_values r = flat_map (told_values (string_bytes r.name)) r.notes.items

-- a file was not judged
abbrev pub has_failed : Report → Bool
has_failed r = list_any is_failure r.notes.items

abbrev pub invocation : List Report → Data
invocation rs =
    object (member (codes "executionSuccessful") (boolean (not (list_any has_failed rs)))
    (member (codes "toolExecutionNotifications") (array (items_of (flat_map note_values rs))) no_members))

abbrev pub tool : List ℕ → Data
tool version =
    only (codes "driver")
    (object (member (codes "name") (string (codes "oscheck"))
    (member (codes "rules") (array (items_of (map rule_value all_checks)))
    (member (codes "version") (string version) no_members))))

-- the run: columns count characters
abbrev pub run_value : List ℕ → List Report → Data
run_value version rs =
    object (member (codes "columnKind") (string (codes "unicodeCodePoints"))
    (member (codes "invocations") (array (item (invocation rs) no_items))
    (member (codes "results") (array (items_of (flat_map finding_values rs)))
    (member (codes "tool") (tool version) no_members))))

abbrev pub log : List ℕ → List Report → Data
log version rs =
    object (member (codes "$schema") (string (codes "https://json.schemastore.org/sarif-2.1.0.json"))
    (member (codes "runs") (array (item (run_value version rs) no_items))
    (member (codes "version") (string (codes "2.1.0")) no_members)))

-- the text: the value without a blank, in a line
unfoldable pub sarif_form : List ℕ → List Report → List ℕ
sarif_form version rs = compact_text (log version rs) ++ codes "\n"
