-- What is reported of a text, and what is told of it in a format.
use Rattle.std.specs.Prelude.{◌≡◌, ◌-◌, ℕ, zero, suc, List, [], ◌∷◌, ◌++◌, length, string_bytes, take}
use Rattle.front_end.specs.Codes.{no_program}
use Rattle.front_end.specs.Texts.{IsAccepted, IsRefused}
use Rattle.os_ast.specs.Violations as rules
use Rattle.os_ast.specs.Trees.{ProgramTree}
use Rattle.os_ast.specs.declared.violation.Violation.{Violation}
use Rattle.os_lexer.specs.Cover.{IsTokenCover}
use Rattle.os_lexer.specs.Effects.{fault_code}
use Rattle.os_lexer.specs.declared.fault.Fault.{Fault}
use Rattle.os_lexer.specs.declared.token.Token.{Token}
use Rattle.oscheck.specs.Findings.{EachTold, IsFindingOf, more_notes}
use Rattle.oscheck.specs.Listed.{IsListOfTokens}
use Rattle.oscheck.specs.Warned.{AreWarned, IsWarningOf}
use Rattle.oscheck.specs.declared.manner.Extent.{Extent}
use Rattle.oscheck.specs.declared.manner.Extent.TheVariants as extents
use Rattle.oscheck.specs.declared.manner.Manner.{Manner}
use Rattle.oscheck.specs.declared.manner.Strictness.{Strictness}
use Rattle.oscheck.specs.declared.manner.Strictness.TheVariants as strictness
use Rattle.oscheck.specs.declared.warning.Warned.{Warned}
use Rattle.oscheck_reports.specs.declared.check.Check.TheVariants as checks
use Rattle.oscheck_reports.specs.declared.check.Severity.TheVariants as severity
use Rattle.oscheck_reports.specs.declared.finding.Finding.{Finding}
use Rattle.oscheck_reports.specs.declared.note.Note.{Note}
use Rattle.oscheck_reports.specs.declared.note.Note.TheVariants as notes
use Rattle.oscheck_reports.specs.Forms.{form}
use Rattle.oscheck_reports.specs.declared.forms.Format.{Format}
use Rattle.oscheck_reports.specs.declared.report.Report.{Report}
use Rattle.oscheck_warnings.specs.Meanings.{meaning_at}

-- how many errors or warnings are told at most: the first, twenty, or more than a text has
abbrev pub most_of : Extent → ℕ
most_of extents.First = 1
most_of extents.Some = 20
most_of extents.All = 18446744073709551615

-- How many of so many are told not to be among them. Where the first alone is asked for, that isn't told.
abbrev pub more_of : Extent → ℕ → ℕ
more_of extents.First count = 0
more_of extents.Some count = count - 20
more_of extents.All count = count - 18446744073709551615

-- a program with so many warnings is accepted, unless warnings are errors
abbrev pub refused_for : ℕ → Note
refused_for zero = notes.Accepted
refused_for (suc more) = notes.RefusedForWarnings

abbrev pub verdict : ℕ → Strictness → Note
verdict count strictness.Lenient = notes.Accepted
verdict count strictness.Strict = refused_for count

abbrev pub accepted_notes : Manner → ℕ → List Note
accepted_notes manner count = more_notes severity.Warning (more_of manner.extent count) ++ verdict count manner.strictness ∷ []

-- A report on a text: its first fault; that its tokens are those of no program; its violations, all in order or the first of them; or that
-- it is accepted, and what it is warned of, in order.
pub data IsReportOn (text : List ℕ) (manner : Manner) (r : Report) : Type 0 where
  has_fault : (fault : Fault) (line : ℕ) (f : Finding) → IsRefused text (fault_code fault) line → f.check ≡ checks.Fault fault
      → r.findings.items ≡ f ∷ [] → r.notes.items ≡ [] → IsReportOn text manner r
  is_no_program : (line : ℕ) (f : Finding) → IsRefused text no_program line → f.check ≡ checks.NoProgram
      → r.findings.items ≡ f ∷ [] → r.notes.items ≡ [] → IsReportOn text manner r
  is_violated : (tokens : List Token) (vs : List Violation) → IsTokenCover text tokens → IsListOfTokens tokens vs
      → EachTold (IsFindingOf text tokens) (take (most_of manner.extent) vs) r.findings.items
      → r.notes.items ≡ more_notes severity.Error (more_of manner.extent (length vs)) → IsReportOn text manner r
  is_accepted : (tokens : List Token) (p : ProgramTree) (ws : List Warned) → IsTokenCover text tokens → IsAccepted text p
      → AreWarned text tokens p (meaning_at (rules.names p)) (length tokens) ws
      → EachTold (IsWarningOf text) (take (most_of manner.extent) ws) r.findings.items
      → r.notes.items ≡ accepted_notes manner (length ws) → IsReportOn text manner r

-- What is told of a text in a format: the form of a report on it, whatever the format.
pub record IsToldOf (format : Format) (text name : List ℕ) (manner : Manner) (told : List ℕ) : Type 0 where
  pub report : Report
  pub named : string_bytes report.name ≡ name
  pub is_report : IsReportOn text manner report
  pub version : List ℕ
  pub is_form : told ≡ form format version (report ∷ [])
