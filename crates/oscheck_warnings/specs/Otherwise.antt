-- What stands behind `else`, as the code holds it.
use Rattle.std.specs.Prelude.{ℕ, List, [], Option, Some, None}
use Rattle.std.specs.declared.alloc.Global.{Global}
use Rattle.std.specs.declared.boxed.Box.{Box}
use Rattle.os_ast.specs.Views.{stmt_tree}
use Rattle.os_ast.specs.declared.names.What.{What}
use Rattle.os_ast.specs.declared.stmt.Stmt.{Stmt}
use Rattle.oscheck_warnings.specs.Accesses.{stmt_accesses}
use Rattle.oscheck_warnings.specs.Extents.{stmt_extents}
use Rattle.oscheck_warnings.specs.declared.access.Access.{Access}
use Rattle.oscheck_warnings.specs.declared.access.Site.{Site}
use Rattle.oscheck_warnings.specs.declared.extent.Extent.{Extent}

abbrev pub other_accesses : Site → Option (Box Stmt Global) → List Access
other_accesses s None = []
other_accesses s (Some b) = stmt_accesses s (stmt_tree b.value)

abbrev pub other_extents : (ℕ → Option What) → Option (Box Stmt Global) → List Extent
other_extents means None = []
other_extents means (Some b) = stmt_extents means (stmt_tree b.value)
