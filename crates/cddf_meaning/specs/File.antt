-- What a body sees of the file: the constants and functions that were declared before it.
use Rattle.std.specs.Prelude.{ℕ, Bool, false, List, Option, ℤ}
use Rattle.std.specs.Option.{option_or}
use Rattle.cddf_meaning.specs.Answers.{Answer, Left}
use Rattle.cddf_meaning.specs.BodyState.{BodyState}
use Rattle.cddf_meaning.specs.ExpressionTypes.{Flags, type_of}
use Rattle.cddf_meaning.specs.Variables.{find, flag_or}
use Rattle.cddf_meaning.specs.declared.variable.Binding.{Binding}
use Rattle.cddf_meaning.specs.declared.variable.Variable.{Variable}
use Rattle.os_ast.specs.Trees as tree

-- what a function gives: by its place among the items of the file, its arguments, and the turns that are left
abbrev pub Calls : Type 0
Calls = ℕ → List ℤ → ℕ → Answer (Left ℤ)

pub record File : Type 0 where
  pub names : List Binding
  -- how many items there are so far
  pub count : ℕ
  pub calls : Calls

abbrev pub or_in_file : File → ℕ → Option Variable → Option Variable
or_in_file file id v = option_or v (find file.names id)

-- what a name stands for: in the body, and else in the file
abbrev pub variable : File → BodyState → ℕ → Option Variable
variable file s id = or_in_file file id (find s.bound id)

-- whether what a name stands for there is of the type `unsigned`: a constant, a function's result, a variable, or the elements of
-- an array, a window or a stream
abbrev pub unsigned_name : File → BodyState → ℕ → Bool
unsigned_name file s id = flag_or (flag_or false file.names id) s.bound id

abbrev pub flags : File → BodyState → Flags
flags file s n = unsigned_name file s n.id

-- the type of an expression there
abbrev pub type_in : File → BodyState → tree.ExprTree → Bool
type_in file s e = type_of (flags file s) e
