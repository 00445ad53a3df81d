-- The value of reports has no number but whole ones.
use Rattle.std.proofs.Common.{◌≡◌, ◌++◌, ◌∷◌, [], ℕ, List, Bool, true, false, map, refl, string_bytes}
use Rattle.std.proofs.lemmas.Bool.{or_parts, or_from}
use Rattle.std.specs.List.{flat_map}
use Rattle.serde_json.specs.Data.{Data}
use Rattle.serde_json.specs.View.{items_of}
use Rattle.serde_json.specs.Written.{has_float, items_have_float}
use Rattle.oscheck_reports.specs.Checks.{all_checks}
use Rattle.oscheck_reports.specs.Notes.{is_accepted}
use Rattle.oscheck_reports.specs.Sarif.{finding_value, finding_values, invocation, log, note_values, rule_value, told_values, tool, uri_of}
use Rattle.oscheck_reports.specs.declared.note.Note.{Note}
use Rattle.oscheck_reports.specs.declared.report.Report.{Report}

joined : (ds es : List Data) → items_have_float (items_of ds) ≡ false → items_have_float (items_of es) ≡ false → items_have_float (items_of (ds ++ es)) ≡ false
joined [] es none more = more
joined (d ∷ ds) es none more =
    let parts = or_parts (has_float d) (items_have_float (items_of ds)) none in
    or_from (has_float d) (items_have_float (items_of (ds ++ es))) parts.0 (joined ds es parts.1 more)

-- lists of lists of such values
all_joined : {X : Type 0} (f : X → List Data) → ((x : X) → items_have_float (items_of (f x)) ≡ false) → (xs : List X) → items_have_float (items_of (flat_map f xs)) ≡ false
all_joined f each [] = refl
all_joined f each (x ∷ xs) = joined (f x) (flat_map f xs) (each x) (all_joined f each xs)

-- lists of such values
all_of : {X : Type 0} (f : X → Data) → ((x : X) → has_float (f x) ≡ false) → (xs : List X) → items_have_float (items_of (map f xs)) ≡ false
all_of f each [] = refl
all_of f each (x ∷ xs) = or_from (has_float (f x)) (items_have_float (items_of (map f xs))) (each x) (all_of f each xs)

of_findings : (r : Report) → items_have_float (items_of (finding_values r)) ≡ false
of_findings r = all_of (finding_value (uri_of (string_bytes r.name))) (λ f. refl) r.findings.items

of_told : (name : List ℕ) (n : Note) (b : Bool) → is_accepted n ≡ b → items_have_float (items_of (told_values name n)) ≡ false
of_told name n true is = rw is
of_told name n false is = rw is

of_notes : (r : Report) → items_have_float (items_of (note_values r)) ≡ false
of_notes r = all_joined (told_values (string_bytes r.name)) (λ n. of_told (string_bytes r.name) n (is_accepted n) refl) r.notes.items

of_rules : items_have_float (items_of (map rule_value all_checks)) ≡ false
of_rules = all_of rule_value (λ c. refl) all_checks

of_tool : (version : List ℕ) → has_float (tool version) ≡ false
of_tool version = rw of_rules

of_invocation : (rs : List Report) → has_float (invocation rs) ≡ false
of_invocation rs = rw (all_joined note_values of_notes rs)

pub of_log : (version : List ℕ) (rs : List Report) → has_float (log version rs) ≡ false
of_log version rs = rw (of_invocation rs, all_joined finding_values of_findings rs, of_tool version)
