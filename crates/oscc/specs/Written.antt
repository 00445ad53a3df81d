-- What is written of a text, and of an object.
use Rattle.std.specs.Prelude.{◌≡◌, ℕ, List}
use Rattle.front_end.specs.Texts.{IsAccepted}
use Rattle.lowering_relation.specs.Laws.{CodeStandsFor}
use Rattle.os_ast.specs.Trees.{ProgramTree}
use Rattle.os_code.specs.declared.parts.Parts.{Parts}
use Rattle.os_object.specs.Object.{Spells}
use Rattle.oscc_text.specs.Program.{c_of}

-- The bytes are the C of a code that stands for the program that the text means.
pub record IsWritten (text written : List ℕ) : Type 0 where
  pub program : ProgramTree
  pub is_program : IsAccepted text program
  pub code : Parts
  pub stands : CodeStandsFor code program
  pub is_c : written ≡ c_of code

-- The bytes are the C of the code that the object spells.
pub record IsWrittenOfObject (object written : List ℕ) : Type 0 where
  pub code : Parts
  pub is_object : Spells object code
  pub is_c : written ≡ c_of code
