-- What is written of the reports on some files.
use Rattle.std.specs.Prelude.{ℕ, List}
use Rattle.std.specs.List.{flat_map}
use Rattle.oscheck_reports.specs.Gcc.{gcc_form}
use Rattle.oscheck_reports.specs.Plain.{text_form}
use Rattle.oscheck_reports.specs.Sarif.{sarif_form}
use Rattle.oscheck_reports.specs.declared.forms.Format.{Format}
use Rattle.oscheck_reports.specs.declared.forms.Format.TheVariants as formats
use Rattle.oscheck_reports.specs.declared.report.Report.{Report}

-- one list of reports, in three forms: for people and as gcc writes one file after another, and as one value of SARIF
abbrev pub form : Format → List ℕ → List Report → List ℕ
form formats.Text version reports = flat_map text_form reports
form formats.Gcc version reports = flat_map gcc_form reports
form formats.Sarif version reports = sarif_form version reports
