-- What holds of every program that a text is accepted as, and of every valid code, as statements.
use Rattle.std.specs.Prelude.{ℕ, ◌≤◌, All, List, length}
use Rattle.cddf_meaning.specs.Control.{control}
use Rattle.flow_core_laws.specs.Limits.{budget_limit}
use Rattle.flow_core_laws.specs.declared.activation.Activation.{Activation}
use Rattle.front_end.specs.Texts.{IsAccepted}
use Rattle.lowering.specs.Meanings.{RunsBodies, RunsControl}
use Rattle.lowering_relation.specs.Laws.{CodeStandsFor}
use Rattle.os_ast.specs.Trees.{ProgramTree}
use Rattle.os_ast.specs.Violations.{streams}
use Rattle.os_code.specs.IsValid.{IsValid}
use Rattle.os_code.specs.Outcomes.{main_control}
use Rattle.os_code.specs.Tasks.{Fits}
use Rattle.os_code.specs.declared.parts.Parts.{Parts}
use Rattle.os_io.specs.Limits.{read_limit}
use Rattle.os_lexer.specs.Limits.{text_limit}
use Rattle.os_object.specs.Object.{Spells}
use Rattle.stream_match_layouts.specs.Lawful.{AreLawful}
use Rattle.lowering_laws.specs.Size.{IsSmall}

-- a fact of every program that a text within its limit is accepted as
abbrev pub OfAccepted : (ProgramTree → Type 0) → Type 0
OfAccepted fact = (text : List ℕ) (p : ProgramTree) → length text ≤ text_limit → IsAccepted text p → fact p

-- a fact of every valid code
abbrev pub OfCodes : (Parts → Type 0) → Type 0
OfCodes fact = (code : Parts) → IsValid code → fact code

-- A code of the program: it stands for the program, does what that means, and is no larger than the compiler makes it.
pub record HasCode (p : ProgramTree) : Type 0 where
  pub code : Parts
  pub stands : CodeStandsFor code p
  pub bodies : RunsBodies code p
  pub control : RunsControl code p
  pub is_small : IsSmall code p

-- the activations that the control program creates are lawful on the streams of the program
abbrev pub CreatesLawful : ProgramTree → Type 0
CreatesLawful p = (input_len budget : ℕ) → budget ≤ budget_limit → AreLawful (streams p) (control p input_len budget).activations

-- the activations that `main` of a code creates are lawful on its streams, and each of them fits the code
pub record AreFitting (code : Parts) (activations : List Activation) : Type 0 where
  pub fit : All (Fits code) activations
  pub lawful : AreLawful code.streams activations

abbrev pub ActivationsFit : Parts → Type 0
ActivationsFit code = (input_len budget : ℕ) → budget ≤ budget_limit → AreFitting code (main_control code input_len budget).activations

-- the object of a valid code of the program that is no larger than the compiler makes it is one that may be read
abbrev pub ObjectsMayBeRead : ProgramTree → Type 0
ObjectsMayBeRead p = (code : Parts) (object : List ℕ) → IsValid code → IsSmall code p → Spells object code → length object ≤ read_limit
