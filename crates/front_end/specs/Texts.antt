-- What a text means, and what is wrong with one that isn't accepted.
use Rattle.std.specs.Prelude.{◌≡◌, ◌⊎◌, ⊤, ℕ, List, []}
use Rattle.front_end.specs.Codes.{no_program, refusal_code}
use Rattle.front_end.specs.declared.text_error.TextError.{TextError}
use Rattle.front_end.specs.declared.text_error.TextError.TheVariants as errors
use Rattle.os_ast.specs.Codes.{code}
use Rattle.os_ast.specs.Fronts.{IsRefusedAt}
use Rattle.os_ast.specs.Means.{Means}
use Rattle.os_ast.specs.Trees.{ProgramTree}
use Rattle.os_ast.specs.Violations.{violations, IsRefusal}
use Rattle.os_ast.specs.declared.violation.Violation.{Violation}
use Rattle.os_lexer.specs.Cover.{IsTokenCover, IsFirstFault}
use Rattle.os_lexer.specs.declared.token.Token.{Token}

-- The text means the program: the tokens of its cover do.
abbrev pub IsProgramOf : List ℕ → ProgramTree → Type 0
IsProgramOf text p = (tokens : List Token) × IsTokenCover text tokens × Means tokens p

-- A text is accepted as a program where it means the program, and that violates no rule.
abbrev pub IsAccepted : List ℕ → ProgramTree → Type 0
IsAccepted text p = IsProgramOf text p × (violations p ≡ [])

-- The text has a cover that means no program, and is refused in this line.
abbrev pub IsNoProgram : List ℕ → ℕ → Type 0
IsNoProgram text line = (tokens : List Token) × (place : ℕ) × IsTokenCover text tokens × IsRefusedAt tokens place line

-- The least violation of the program that it means has this code and line.
abbrev pub HasLeastViolation : List ℕ → ℕ → ℕ → Type 0
HasLeastViolation text c line = (p : ProgramTree) × (v : Violation) × IsProgramOf text p × IsRefusal p v × (code v.rule ≡ c) × (v.line ≡ line)

-- What is wrong with a text, by its code and its line: its first fault, or that its tokens mean no program, or its least
-- violation. The later ones need a cover, and the last one a program.
pub data IsRefused (text : List ℕ) : ℕ → ℕ → Type 0 where
  has_fault : {code line : ℕ} → IsFirstFault text code line → IsRefused text code line
  is_no_program : {line : ℕ} → IsNoProgram text line → IsRefused text no_program line
  has_violation : {code line : ℕ} → HasLeastViolation text code line → IsRefused text code line

-- an error says what is wrong, or that memory ran out
abbrev pub IsTrueOf : List ℕ → TextError → Type 0
IsTrueOf text (errors.Refused refusal line) = IsRefused text (refusal_code refusal) line
IsTrueOf text errors.Memory = ⊤

-- a text is accepted as one program
abbrev pub OneProgram : Type 0
OneProgram = (text : List ℕ) (p q : ProgramTree) → IsAccepted text p → IsAccepted text q → p ≡ q

-- no text is accepted and refused
abbrev pub NeverBoth : Type 0
NeverBoth = (text : List ℕ) (p : ProgramTree) (code line : ℕ) → IsAccepted text p → IsRefused text code line → ⊥

-- a text is refused in one way: by one code and in one line
abbrev pub OneRefusal : Type 0
OneRefusal =
    (text : List ℕ) (code line other there : ℕ) → IsRefused text code line → IsRefused text other there → (code ≡ other) × (line ≡ there)

-- each text is accepted or refused
abbrev pub AcceptedOrRefused : Type 0
AcceptedOrRefused = (text : List ℕ) → ((p : ProgramTree) × IsAccepted text p) ⊎ ((code : ℕ) × (line : ℕ) × IsRefused text code line)
