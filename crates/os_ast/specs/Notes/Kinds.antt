-- What may stand at a token of which a rule speaks, or whose name means something.
use Rattle.std.specs.Prelude.{ℕ, List}
use Rattle.os_ast.specs.Captured.{Scalar}
use Rattle.os_ast.specs.Names.{Scope}
use Rattle.os_ast.specs.Trees.{DeclaratorTree}
use Rattle.os_ast.specs.declared.expr.Mark.{Mark}
use Rattle.os_ast.specs.declared.expr.Name.{Name}
use Rattle.os_ast.specs.declared.names.Use.{Use}
use Rattle.os_ast.specs.declared.program.Param.{Param}

-- what stands at a token, with the scope there
pub data Note : Type 0 where
  -- a name that is used
  Used : Scope → Name → Use → Note
  -- a name that is the size of a local array or of an array of streams
  Sized : Scope → Name → Note
  -- the name of a declarator
  Declared : Scope → DeclaratorTree → Note
  -- the name of a parameter
  Parameter : Scope → Param → Note
  -- the name of a constant or of a function, where it is declared
  Global : Scope → Name → Note
  -- `break` or `continue`
  Left : Scope → Mark → Note
  -- `return`
  Returned : Scope → Mark → Note
  -- the start of a `tick` or a `taskwait`
  Pragma : Scope → Mark → Note
  -- the start of a task, with how many items it has, and the scalars that it captures
  Task : Scope → Mark → ℕ → List Scalar → Note
  -- the name of a member of a task's clauses, behind members of these names
  Listed : List ℕ → Name → Note

-- the token at which a note is made
abbrev pub mark_of : Note → Mark
mark_of (Used s n u) = n.mark
mark_of (Sized s n) = n.mark
mark_of (Declared s d) = d.name.mark
mark_of (Parameter s p) = p.name.mark
mark_of (Global s n) = n.mark
mark_of (Left s m) = m
mark_of (Returned s m) = m
mark_of (Pragma s m) = m
mark_of (Task s m items captured) = m
mark_of (Listed before n) = n.mark
