-- What stays in scope.
use Rattle.std.specs.Prelude.{List, ◌∷◌}
use Rattle.os_ast.specs.declared.names.Entry.{Entry}

-- the declarations in scope are those of before, and perhaps more, which are further in
pub data Keeps (before : List Entry) : List Entry → Type 0 where
  same : Keeps before before
  more : {e : Entry} {entries : List Entry} → Keeps before entries → Keeps before (e ∷ entries)
