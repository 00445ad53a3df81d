-- Codes: which stand for a program, and which bytes are the object of one.
use Rattle.std.specs.Prelude.{ℕ, List}
use Rattle.lowering.specs.Meanings.{RunsBodies, RunsControl}
use Rattle.lowering_relation.specs.Laws.{CodeStandsFor}
use Rattle.os_ast.specs.Trees.{ProgramTree}
use Rattle.os_code.specs.IsValid.{IsValid}
use Rattle.os_code.specs.declared.parts.Parts.{Parts}
use Rattle.os_object.specs.Object.{Spells}

-- A code of a program: it stands for the program, each activation that fits it ends on the machine as the body of its task, and
-- its `main` creates what the control program creates and ends as it does.
pub record IsCodeOf (code : Parts) (program : ProgramTree) : Type 0 where
  pub stands : CodeStandsFor code program
  pub bodies : RunsBodies code program
  pub control : RunsControl code program

-- Bytes are the object of a valid code.
pub record IsObjectOf (bytes : List ℕ) (code : Parts) : Type 0 where
  pub spelled : Spells bytes code
  pub valid : IsValid code
