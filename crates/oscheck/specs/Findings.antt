-- What is found in a text that violates rules.
use Rattle.std.specs.Prelude.{◌≡◌, ◌<◌, ◌≤◌, ◌==◌, ℕ, List, [], ◌∷◌, ◌++◌, Option, Some, None, length, if◌then◌else◌}
use Rattle.os_ast.specs.declared.violation.Violation.{Violation}
use Rattle.os_lexer.specs.declared.token.Token.{Token}
use Rattle.oscheck.specs.Listed.{token_of}
use Rattle.oscheck_places.specs.Lines.{IsColumn, IsCharacterColumn}
use Rattle.oscheck_reports.specs.declared.check.Check.TheVariants as checks
use Rattle.oscheck_reports.specs.declared.check.Severity.{Severity}
use Rattle.oscheck_reports.specs.declared.finding.Finding.{Finding}
use Rattle.oscheck_reports.specs.declared.finding.Place.{Place}
use Rattle.oscheck_reports.specs.declared.finding.Place.TheVariants as places
use Rattle.oscheck_reports.specs.declared.note.Note.{Note}
use Rattle.oscheck_reports.specs.declared.note.Note.TheVariants as notes

-- The place of a point of the text, in a line: with its columns, or behind the text the line alone.
pub data IsPlaceOf (text : List ℕ) (line point : ℕ) : Place → Type 0 where
  is_within : (byte character : ℕ) → point ≤ length text → IsColumn text point byte → IsCharacterColumn text point character
      → IsPlaceOf text line point (places.Column line byte character)
  is_behind : length text < point → IsPlaceOf text line point (places.Line line)

-- The place of a token, or of a line where there is none.
abbrev pub IsPlaceOfToken : List ℕ → ℕ → Option Token → Place → Type 0
IsPlaceOfToken text line (Some t) p = IsPlaceOf text t.line t.start p
IsPlaceOfToken text line None p = p ≡ places.Line line

-- A finding tells a violation: it is of its rule, and stands at its token.
pub record IsFindingOf (text : List ℕ) (tokens : List Token) (v : Violation) (f : Finding) : Type 0 where
  pub rule : f.check ≡ checks.Rule v.rule
  pub place : IsPlaceOfToken text v.line (token_of tokens v) f.place

-- findings tell some things, one each, in their order
pub data EachTold {A : Type 0} (Tells : A → Finding → Type 0) : List A → List Finding → Type 0 where
  no_more : EachTold Tells [] []
  and_one : {xs : List A} {fs : List Finding} (x : A) (f : Finding) → EachTold Tells xs fs → Tells x f → EachTold Tells (xs ++ x ∷ []) (fs ++ f ∷ [])

-- that there are more than are told
abbrev pub more_notes : Severity → ℕ → List Note
more_notes severity more = if more == 0 then [] else notes.More severity more ∷ []
