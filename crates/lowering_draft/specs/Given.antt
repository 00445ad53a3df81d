-- The expressions in declarators and items are leveled.
use Rattle.std.specs.Prelude.{◌≡◌, Some}
use Rattle.os_ast.specs.Leveled.{IsExpr, IsTarget}
use Rattle.os_ast.specs.ClauseMembers.{ClauseMember, Item, Private}
use Rattle.os_ast.specs.Trees as tree
use Rattle.os_ast.specs.declared.expr.Name.{Name}
use Rattle.os_ast.specs.declared.names.Direction.{Direction}

-- the size and the first value of a declarator are leveled
pub record HasLeveledExprs (d : tree.DeclaratorTree) : Type 0 where
  pub size : (i : tree.IndexTree) → d.size ≡ Some i → IsExpr i.value
  pub first : (e : tree.ExprTree) → d.first ≡ Some e → IsExpr e

-- the stream and the burst of an item
pub data IsItem : ClauseMember → Type 0 where
  private_name : {n : Name} → IsItem (Private n)
  joined : {d : Direction} {i : tree.ClauseItemTree} → IsTarget i.stream
      → ((j : tree.JoinTree) (b : tree.IndexTree) → i.window ≡ Some j → j.burst ≡ Some b → IsExpr b.value) → IsItem (Item d i)
