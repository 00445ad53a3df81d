-- The codes of texts that are refused.
use Rattle.std.specs.Prelude.{ℕ}
use Rattle.front_end.specs.declared.text_refusal.TextRefusal.{TextRefusal}
use Rattle.front_end.specs.declared.text_refusal.TextRefusal.TheVariants.{Fault, NoProgram, Violated}
use Rattle.os_ast.specs.Codes.{code}
use Rattle.os_lexer.specs.Effects.{fault_code}

-- the code under which a text is refused whose tokens mean no program
abbrev pub no_program : ℕ
no_program = 4

-- the code that a refusal shows
abbrev pub refusal_code : TextRefusal → ℕ
refusal_code (Fault fault) = fault_code fault
refusal_code NoProgram = no_program
refusal_code (Violated rule) = code rule
