-- Reports in the XML of JUnit.
use Rattle.std.specs.Prelude.{ℕ, ◌==◌, List, [], ◌∷◌, ◌++◌, codes, filter, if◌then◌else◌, length, nat_lt}
use Rattle.std.specs.Fmt.{decimal}
use Rattle.std.specs.List.{flat_map}
use Rattle.osvectors_cases.specs.Reports.{ReportRow, has_outcome}
use Rattle.osvectors_cases.specs.declared.row.Outcome.{Outcome}
use Rattle.osvectors_cases.specs.declared.row.Outcome.TheVariants as outcomes

-- A byte of a text between quotes: what XML gives a meaning stands as an entity, and control characters, which it doesn't take, become `?`.
abbrev pub xml_byte : ℕ → List ℕ
xml_byte byte =
    if nat_lt byte 32 then codes "?" else if byte == 60 then codes "&lt;" else if byte == 62 then codes "&gt;"
    else if byte == 38 then codes "&amp;" else if byte == 34 then codes "&quot;" else byte ∷ []

abbrev pub xml_text : List ℕ → List ℕ
xml_text text = flat_map xml_byte text

-- an attribute of a number, and of a text
abbrev pub count_attribute : (name : List ℕ) → ℕ → List ℕ
count_attribute name count = name ++ decimal count ++ codes "\""

abbrev pub text_attribute : (name text : List ℕ) → List ℕ
text_attribute name text = name ++ xml_text text ++ codes "\""

-- how many cases there are, how many failed, and how many could not be run
abbrev pub counts : List ReportRow → List ℕ
counts rows = count_attribute (codes " tests=\"") (length rows) ++ count_attribute (codes " failures=\"") (length (filter (has_outcome outcomes.Failed) rows))
    ++ count_attribute (codes " errors=\"") (length (filter (has_outcome outcomes.Broken) rows))

-- why a case did not pass, behind the name of its element
abbrev pub xml_problem : (before why : List ℕ) → List ℕ
xml_problem before why = text_attribute before why ++ codes "/></testcase>\n"

-- what stands in the element of a case, by what came of it
abbrev pub xml_outcome : Outcome → (why : List ℕ) → List ℕ
xml_outcome outcomes.Passed why = codes "/>\n"
xml_outcome outcomes.Failed why = xml_problem (codes "><failure message=\"") why
xml_outcome outcomes.Broken why = xml_problem (codes "><error message=\"") why

-- the element of a case
abbrev pub xml_case : (suite : List ℕ) → ReportRow → List ℕ
xml_case suite row =
    text_attribute (codes "<testcase classname=\"") suite ++ text_attribute (codes " name=\"") row.title ++ xml_outcome row.outcome row.why

-- the counts, with which an element's head ends
abbrev pub count_line : List ReportRow → List ℕ
count_line rows = counts rows ++ codes ">\n"

-- what stands before the suite, and before its cases
abbrev pub xml_head : List ReportRow → List ℕ
xml_head rows = codes "<?xml version=\"1.0\" encoding=\"UTF-8\"?>\n<testsuites" ++ count_line rows

abbrev pub suite_head : (suite : List ℕ) → List ReportRow → List ℕ
suite_head suite rows = text_attribute (codes "<testsuite name=\"") suite ++ count_line rows

-- The report: one suite, with the name of the file of cases, and the cases in their order.
abbrev pub junit_report : (suite : List ℕ) → List ReportRow → List ℕ
junit_report suite rows =
    (xml_head rows ++ suite_head suite rows) ++ flat_map (xml_case suite) rows ++ codes "</testsuite>\n</testsuites>\n"
