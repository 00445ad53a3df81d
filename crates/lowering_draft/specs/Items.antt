-- What the items of a task's clauses make, one after another.
use Rattle.std.specs.Prelude.{List, [], ◌∷◌}
use Rattle.os_ast.specs.ClauseMembers.{ClauseMember, Item, Private}
use Rattle.os_ast.specs.Trees as tree
use Rattle.os_ast.specs.declared.names.Direction.{Direction}

-- what there is behind the items of these members, by what there is behind one
abbrev pub with_items : {M : Type 0} → (Direction → tree.ClauseItemTree → M → M) → List ClauseMember → M → M
with_items with_item [] made = made
with_items with_item (Item d i ∷ ps) made = with_items with_item ps (with_item d i made)
with_items with_item (Private n ∷ ps) made = with_items with_item ps made
