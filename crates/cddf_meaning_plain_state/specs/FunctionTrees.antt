-- The functions of a file.
use Rattle.std.specs.Prelude.{Option, Some, None}
use Rattle.os_ast.specs.Trees as tree

-- the function that an item is
abbrev pub function_of : Option tree.ItemTree → Option tree.FunctionTree
function_of None = None
function_of (Some (tree.Constant c)) = None
function_of (Some (tree.Function f)) = Some f
