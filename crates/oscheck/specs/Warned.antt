-- What an accepted program is warned of.
use Rattle.std.specs.Prelude.{◌≡◌, ◌<◌, ◌⊎◌, ℕ, ◌+◌, List, [], ◌∷◌, ◌++◌, Option, Some}
use Rattle.std.specs.List.{slice_get}
use Rattle.os_ast.specs.Trees.{ProgramTree}
use Rattle.os_ast.specs.declared.names.What.{What}
use Rattle.os_lexer.specs.Names.{input_id, output_id}
use Rattle.os_lexer.specs.declared.token.Token.{Token}
use Rattle.oscheck.specs.Findings.{IsPlaceOf}
use Rattle.oscheck.specs.declared.warning.Warned.{Warned}
use Rattle.oscheck.specs.declared.warning.Warning.{Warning}
use Rattle.oscheck.specs.declared.warning.Warning.TheVariants as warned
use Rattle.oscheck_reports.specs.declared.check.Check.TheVariants as reported
use Rattle.oscheck_reports.specs.declared.finding.Finding.{Finding}
use Rattle.oscheck_reports.specs.declared.warning.Warning.{Warning as Check}
use Rattle.oscheck_reports.specs.declared.warning.Warning.TheVariants as checks
use Rattle.oscheck_warnings.specs.Accesses.{accesses}
use Rattle.oscheck_warnings.specs.Bursts.{IsWrongBurst}
use Rattle.oscheck_warnings.specs.DeadStores.{IsDeadStore}
use Rattle.oscheck_warnings.specs.EmptyBodies.{IsEmptyBody}
use Rattle.oscheck_warnings.specs.Extents.{extents}
use Rattle.oscheck_warnings.specs.Octal.{IsOctal}
use Rattle.oscheck_warnings.specs.OpenEnds.{IsOpenEnd}
use Rattle.oscheck_warnings.specs.Streams.{IsLeftOut}
use Rattle.oscheck_warnings.specs.Warnings.{IsBareTask, IsLoneName}
use Rattle.oscheck_warnings.specs.WindowSizes.{IsWrongSize}

-- no task reads the stream that is declared at a place, or none writes it
abbrev pub IsIdle : List Token → ℕ → Type 0
IsIdle tokens place = IsLeftOut tokens input_id place ⊎ IsLeftOut tokens output_id place

-- a number stands at a place whose digits are octal
abbrev pub IsOctalAt : List ℕ → List Token → ℕ → Type 0
IsOctalAt text tokens place = (t : Token) × (slice_get tokens place ≡ Some t) × IsOctal text t

-- There is this to warn of at a place, in a text with these tokens that means the program, whose names mean this.
abbrev pub Holds : List ℕ → List Token → ProgramTree → (ℕ → Option What) → Check → ℕ → Type 0
Holds text tokens p means checks.BareTask place = IsBareTask tokens place
Holds text tokens p means checks.LoneName place = IsLoneName tokens place
Holds text tokens p means checks.IdleStream place = IsIdle tokens place
Holds text tokens p means checks.DeadStore place = IsDeadStore (accesses p) means place
Holds text tokens p means checks.WrongBurst place = IsWrongBurst (extents means p) means place
Holds text tokens p means checks.WrongSize place = IsWrongSize (extents means p) means place
Holds text tokens p means checks.OpenEnd place = IsOpenEnd p place
Holds text tokens p means checks.EmptyBody place = IsEmptyBody tokens place
Holds text tokens p means checks.Octal place = IsOctalAt text tokens place

-- all that there may be to warn of, in the order in which it is asked for
abbrev pub all_warnings : List Check
all_warnings =
    checks.BareTask ∷ checks.LoneName ∷ checks.IdleStream ∷ checks.DeadStore ∷ checks.WrongBurst ∷ checks.WrongSize ∷ checks.OpenEnd ∷ checks.EmptyBody
    ∷ checks.Octal ∷ []

-- where each of them stands in that order
abbrev pub rank : Check → ℕ
rank checks.BareTask = 0
rank checks.LoneName = 1
rank checks.IdleStream = 2
rank checks.DeadStore = 3
rank checks.WrongBurst = 4
rank checks.WrongSize = 5
rank checks.OpenEnd = 6
rank checks.EmptyBody = 7
rank checks.Octal = 8

-- it is the first in that order that there is to warn of at a place
pub record IsFirst (text : List ℕ) (tokens : List Token) (p : ProgramTree) (means : ℕ → Option What) (place : ℕ) (check : Check) : Type 0 where
  pub holds : Holds text tokens p means check place
  pub first : (other : Check) → rank other < rank check → Holds text tokens p means other place → ⊥

-- the check that a warning is an instance of
abbrev pub kind_of : Warning → Check
kind_of warned.BareTask = checks.BareTask
kind_of warned.LoneName = checks.LoneName
kind_of (warned.Stream lack) = checks.IdleStream
kind_of warned.DeadStore = checks.DeadStore
kind_of warned.WrongBurst = checks.WrongBurst
kind_of warned.WrongSize = checks.WrongSize
kind_of warned.OpenEnd = checks.OpenEnd
kind_of warned.EmptyBody = checks.EmptyBody
kind_of (warned.Octal value) = checks.Octal

-- The list has what there is to warn of at the places before one, in the order of the text, and nothing else: at each place the first that
-- holds, with the token there.
pub data AreWarned (text : List ℕ) (tokens : List Token) (p : ProgramTree) (means : ℕ → Option What) : ℕ → List Warned → Type 0 where
  at_the_front : AreWarned text tokens p means 0 []
  not_here : {place : ℕ} {ws : List Warned} → AreWarned text tokens p means place ws → ((check : Check) → Holds text tokens p means check place → ⊥)
      → AreWarned text tokens p means (place + 1) ws
  and_here : {place : ℕ} {ws : List Warned} (w : Warned) → AreWarned text tokens p means place ws → w.place ≡ place
      → slice_get tokens place ≡ Some w.token → IsFirst text tokens p means place (kind_of w.warning) → AreWarned text tokens p means (place + 1) (ws ++ w ∷ [])

-- A finding tells a warning: it is of its check, and stands at its token.
pub record IsWarningOf (text : List ℕ) (w : Warned) (f : Finding) : Type 0 where
  pub check : f.check ≡ reported.Warning (kind_of w.warning)
  pub place : IsPlaceOf text w.token.line w.token.start f.place
