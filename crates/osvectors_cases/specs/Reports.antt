-- What is reported of cases.
use Rattle.std.specs.Prelude.{ℕ, Bool, true, false, List}
use Rattle.osvectors_cases.specs.declared.row.Outcome.{Outcome}
use Rattle.osvectors_cases.specs.declared.row.Outcome.TheVariants as outcomes
use Rattle.osvectors_cases.specs.declared.row.Row.{Row as Lent}

-- what a report says of a case: its place and names, what came of it, and why
pub record ReportRow : Type 0 where
  pub title : List ℕ
  pub outcome : Outcome
  pub why : List ℕ

abbrev pub row_of : Lent → ReportRow
row_of lent = record { title = lent.title.items; outcome = lent.outcome; why = lent.why.items }

-- both are the same outcome
abbrev pub same_outcome : Outcome → Outcome → Bool
same_outcome outcomes.Passed outcomes.Passed = true
same_outcome outcomes.Failed outcomes.Failed = true
same_outcome outcomes.Broken outcomes.Broken = true
same_outcome _ _ = false

-- the row has this outcome
abbrev pub has_outcome : Outcome → ReportRow → Bool
has_outcome outcome row = same_outcome row.outcome outcome
