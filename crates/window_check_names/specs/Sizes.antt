-- Sizes, as the code finds them.
use Rattle.std.specs.Prelude.{◌||◌, Bool, false, ltb, Option, Some, None, is_none}
use Rattle.os_ast.specs.Limits.{elements_limit, arrays_limit, streams_limit}
use Rattle.os_ast.specs.Names.{Scope}
use Rattle.os_ast.specs.Trees as tree
use Rattle.os_ast.specs.declared.expr.Name.{Name}
use Rattle.os_ast.specs.declared.names.Form.{Form}
use Rattle.os_ast.specs.declared.names.Form.TheVariants as form_of

-- the name that a size is
abbrev pub bare_name : tree.ExprTree → Option Name
bare_name (tree.Place (tree.Variable n)) = Some n
bare_name _ = None

-- where so much is taken, a declarator of this form has a wrong size, or passes a limit
abbrev pub passes_limit : Scope → Form → Bool
passes_limit s form_of.Scalar = false
passes_limit s (form_of.Array size) = is_none size || (ltb elements_limit s.elements || ltb arrays_limit s.arrays)
passes_limit s form_of.Window = false
passes_limit s form_of.Stream = ltb streams_limit s.streams
passes_limit s (form_of.Streams size) = is_none size || ltb streams_limit s.streams
