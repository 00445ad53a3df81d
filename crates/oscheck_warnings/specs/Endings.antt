-- The test of an item, and what stands behind `else`, as the code holds it.
use Rattle.std.specs.Prelude.{◌==◌, ◌&&◌, not, ℕ, Bool, true, false, Option, Some, None}
use Rattle.std.specs.declared.alloc.Global.{Global}
use Rattle.std.specs.declared.boxed.Box.{Box}
use Rattle.os_ast.specs.Trees as tree
use Rattle.os_ast.specs.Views.{stmt_tree, item_tree}
use Rattle.os_ast.specs.declared.program.Item.{Item}
use Rattle.os_ast.specs.declared.stmt.Stmt.{Stmt}
use Rattle.os_lexer.specs.Names.{main_id}
use Rattle.oscheck_warnings.specs.OpenEnds.{breaks, stays, some_stay}

abbrev pub other_breaks : Option (Box Stmt Global) → Bool
other_breaks None = false
other_breaks (Some b) = breaks (stmt_tree b.value)

abbrev pub other_stays : Option (Box Stmt Global) → Bool
other_stays None = false
other_stays (Some b) = stays (stmt_tree b.value)

abbrev pub open_item : tree.ItemTree → Bool
open_item (tree.ItemTree.Constant c) = false
open_item (tree.ItemTree.Function f) = not (f.name.id == main_id) && not (some_stay f.body)

abbrev pub item_place : tree.ItemTree → ℕ
item_place (tree.ItemTree.Constant c) = 0
item_place (tree.ItemTree.Function f) = f.name.mark.place

abbrev pub is_open : Item → Bool
is_open i = open_item (item_tree i)

abbrev pub place_of : Item → ℕ
place_of i = item_place (item_tree i)
