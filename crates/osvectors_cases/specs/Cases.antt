-- What the lines of a file of cases say.
use Rattle.std.specs.Prelude.{◌≡◌, ◌≢◌, ◌==◌, ◌+◌, ◌⊎◌, ℕ, Bool, false, List, [], ◌∷◌, ◌++◌, Option, Some, None, if◌then◌else◌, length, map, string_bytes}
use Rattle.std.specs.List.{slice_split}
use Rattle.os_serve_jobs.specs.Words.{IsText, line_words}
use Rattle.osvectors_cases.specs.Wanted.{Text, WantedOutput, wanted_in, wanted_of}
use Rattle.osvectors_cases.specs.declared.case.Case.{Case as Lent}
use Rattle.osvectors_cases.specs.declared.case.CaseLine.{CaseLine}
use Rattle.osvectors_cases.specs.declared.case.CaseLine.TheVariants as lines
use Rattle.osvectors_cases.specs.declared.cases.NumberedCase.{NumberedCase}

-- a case: the names of a program and of an input, the wanted output, and the options of the run
pub record CaseText : Type 0 where
  pub program : Text
  pub input : Text
  pub wanted : WantedOutput
  pub options : List Text

-- what a line says: nothing, a case, or nothing that can be understood
pub data Said : Type 0 where
  nothing : Said
  case : CaseText → Said
  none : Said

-- the word begins with `#`, so that it and all behind it are a remark
abbrev pub is_remark : Text → Bool
is_remark [] = false
is_remark (byte ∷ bytes) = byte == 35

-- a case of these words, if the third one wants an output
abbrev pub case_with : Text → Text → List Text → Option WantedOutput → Said
case_with program input options None = none
case_with program input options (Some wanted) =
    case (record { program = program; input = input; wanted = wanted; options = options })

-- a case has three words at least
abbrev pub case_in : List Text → Said
case_in (program ∷ input ∷ word ∷ options) = case_with program input options (wanted_in word)
case_in _ = none

-- what the words of a line say
abbrev pub said_by : List Text → Said
said_by [] = nothing
said_by (first ∷ rest) = if is_remark first then nothing else case_in (first ∷ rest)

-- What a line says: its words say it, and a line that isn't text says nothing that can be understood.
abbrev pub LineSays : List ℕ → Said → Type 0
LineSays line said = (IsText line × (said ≡ said_by (line_words line))) ⊎ ((IsText line → ⊥) × (said ≡ none))

-- the lines of a file; the last one may be empty, which says nothing
abbrev pub lines_of : List ℕ → List (List ℕ)
lines_of bytes = slice_split (λ byte. byte == 10) bytes

-- a case with the number of its line, if the line says one
abbrev pub numbered : ℕ → Said → List (ℕ × CaseText)
numbered number nothing = []
numbered number none = []
numbered number (case text) = (number, text) ∷ []

-- The lines from a number on say these cases, in their order and with none left out, and all of them can be understood.
abbrev pub SayCases : ℕ → List (List ℕ) → List (ℕ × CaseText) → Type 0
SayCases number [] cases = cases ≡ []
SayCases number (line ∷ lines) cases = (said : Said) × LineSays line said × (said ≢ none)
    × ((rest : List (ℕ × CaseText)) × SayCases (number + 1) lines rest × (cases ≡ numbered number said ++ rest))

-- The line with a number, counted from 1, is the first that can't be understood.
pub record IsFirstUnsaid (lines : List (List ℕ)) (number : ℕ) : Type 0 where
  pub earlier : List (List ℕ)
  pub line : List ℕ
  pub later : List (List ℕ)
  pub lines_are : lines ≡ earlier ++ line ∷ later
  pub number_is : number ≡ length earlier + 1
  pub cases : List (ℕ × CaseText)
  pub said_before : SayCases 1 earlier cases
  pub unsaid : LineSays line none

-- ---- what the code's values show

abbrev pub case_of : Lent → CaseText
case_of lent = record {
  program = string_bytes lent.program;
  input = string_bytes lent.input;
  wanted = wanted_of lent.wanted;
  options = map string_bytes lent.options.items;
}

abbrev pub said_of : CaseLine → Said
said_of lines.Nothing = nothing
said_of (lines.Case lent) = case (case_of lent)
said_of lines.Unknown = none

abbrev pub numbered_of : NumberedCase → ℕ × CaseText
numbered_of lent = (lent.line, case_of lent.case)
