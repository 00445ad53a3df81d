-- A chain holds no chain of its own level.
use Rattle.std.proofs.Common.{arith}
use Rattle.os_ast.specs.Leveled as leveled
use Rattle.os_ast.specs.Leveled.{IsExpr}
use Rattle.os_ast.specs.Trees as tree
use Rattle.os_ast.specs.declared.expr.Binary.{Binary}
use Rattle.os_ast.specs.declared.expr.Level.{Level}
use Rattle.os_ast.specs.declared.expr.Mark.{Mark}

pub no_chain_at_the_right : (l : Level) (a b : tree.ExprTree) (op : Binary) (m : Mark) (inner outer : tree.Links) →
    IsExpr (tree.Chain l a (tree.link op m (tree.Chain l b inner) outer)) → ⊥
no_chain_at_the_right l a b op m inner outer (leveled.chain first higher (leveled.link level operand above rest)) =
    omega (arith, above)
