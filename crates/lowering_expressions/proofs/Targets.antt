-- A target of the code, by whether it has an index.
use Rattle.std.proofs.Common.{◌≡◌, Option, Some, None, refl}
use Rattle.os_ast.specs.Trees as tree
use Rattle.os_ast.specs.Views.{expr_tree, target_tree}
use Rattle.os_ast.specs.declared.expr.Index.{Index}
use Rattle.os_ast.specs.declared.expr.Name.{Name}
use Rattle.os_ast.specs.declared.expr.Target as target
use Rattle.std.specs.declared.alloc.Global.{Global}
use Rattle.std.specs.declared.boxed.Box.{Box}

abbrev pub by_index : Name → Option (Box Index Global) → tree.TargetTree
by_index n None = tree.Variable n
by_index n (Some i) = tree.Element n i.value.mark (expr_tree i.value.value)

pub target_by_index : (t : target.Target) → target_tree t ≡ by_index (target.out-Target t).name (target.out-Target t).index
unfolding target.out-Target denote.Hole.Carrier.out
target_by_index (target.Target' n target.None') = refl
target_by_index (target.Target' n (target.Some' p m e)) = refl
