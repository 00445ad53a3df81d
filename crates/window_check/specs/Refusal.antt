-- What a refusal says of a program.
use Rattle.std.specs.Prelude.{◌≡◌, ⊤}
use Rattle.os_ast.specs.Codes.{code}
use Rattle.os_ast.specs.Trees.{ProgramTree}
use Rattle.os_ast.specs.Violations.{IsRefusal}
use Rattle.os_ast.specs.declared.violation.Violation.{Violation}
use Rattle.window_check.specs.declared.check_error.CheckError.{CheckError}
use Rattle.window_check.specs.declared.check_error.CheckError.TheVariants as errors

-- the code and the line are those of the program's least violation, wherever its token stands
abbrev pub IsAnswer : ProgramTree → CheckError → Type 0
IsAnswer p (errors.Fault c line) = (v : Violation) × IsRefusal p v × (code v.rule ≡ c) × (v.line ≡ line)
IsAnswer p errors.Memory = ⊤
