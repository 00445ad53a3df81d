-- Reports in the Test Anything Protocol, version 13, which readers of version 14 take too.
use Rattle.std.specs.Prelude.{ℕ, ◌+◌, ◌==◌, List, [], ◌∷◌, ◌++◌, codes, if◌then◌else◌, length, nat_lt}
use Rattle.std.specs.Fmt.{decimal}
use Rattle.std.specs.List.{flat_map}
use Rattle.osvectors_cases.specs.Reports.{ReportRow}
use Rattle.osvectors_cases.specs.declared.row.Outcome.{Outcome}
use Rattle.osvectors_cases.specs.declared.row.Outcome.TheVariants as outcomes

-- A byte of a text: a backslash stands before `#`, which would begin a directive, and before a backslash; control characters become `?`.
abbrev pub tap_byte : ℕ → List ℕ
tap_byte byte =
    if nat_lt byte 32 then codes "?" else if byte == 35 then codes "\\#" else if byte == 92 then codes "\\\\" else byte ∷ []

abbrev pub tap_text : List ℕ → List ℕ
tap_text text = flat_map tap_byte text

-- a test point: the number of the case, counted from 1, and its title
abbrev pub test_point : (verdict : List ℕ) (number : ℕ) → ReportRow → List ℕ
test_point verdict number row = verdict ++ decimal number ++ codes " - " ++ tap_text row.title ++ codes "\n"

-- why a case failed, as a line for people
abbrev pub diagnostic : List ℕ → List ℕ
diagnostic why = codes "# " ++ tap_text why ++ codes "\n"

-- the lines of a case by what came of it
abbrev pub tap_lines_by : Outcome → ℕ → ReportRow → List ℕ
tap_lines_by outcomes.Passed number row = test_point (codes "ok ") number row
tap_lines_by outcomes.Failed number row = test_point (codes "not ok ") number row ++ diagnostic row.why
tap_lines_by outcomes.Broken number row = test_point (codes "not ok ") number row ++ diagnostic row.why

-- the lines of cases, of which the first has a number
abbrev pub tap_lines : ℕ → List ReportRow → List ℕ
tap_lines number [] = []
tap_lines number (row ∷ rows) = tap_lines_by row.outcome number row ++ tap_lines (number + 1) rows

-- The report: its version, its plan, and the cases in their order.
abbrev pub tap_report : List ReportRow → List ℕ
tap_report rows = (codes "TAP version 13\n1.." ++ decimal (length rows) ++ codes "\n") ++ tap_lines 1 rows
