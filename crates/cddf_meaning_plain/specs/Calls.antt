-- Calls of functions.
use Rattle.std.specs.Prelude.{ℕ, List, Option, Some, None, ℤ}
use Rattle.cddf_meaning.specs.Answers.{Answer, Left, and_then, over}
use Rattle.cddf_meaning.specs.File.{File, variable}
use Rattle.cddf_meaning.specs.Functions.{call_function}
use Rattle.cddf_meaning.specs.BodyState.{BodyState}
use Rattle.cddf_meaning.specs.Value.{values, call_value}
use Rattle.os_ast.specs.Trees as tree

-- a call of the name with these arguments
abbrev pub called : File → ℕ → tree.Args → BodyState → ℕ → Answer (Left ℤ)
called file id args s turns = and_then (values file args s turns) (call_value file.calls (variable file s id))

-- a call of a function behind these items of the file
abbrev pub called_by : File → Option tree.FunctionTree → List ℤ → ℕ → Answer (Left ℤ)
called_by file None args turns = over
called_by file (Some f) args turns = call_function file f args turns
