-- The scalars that a task captures.
use Rattle.std.specs.Prelude.{ℕ, ◌==◌, if◌then◌else◌, List, [], ◌∷◌, ◌++◌, map, filter}
use Rattle.os_ast.specs.FreeNames.{task_names}
use Rattle.os_ast.specs.ClauseMembers.{ClauseMember, is_in}
use Rattle.os_ast.specs.Trees as tree
use Rattle.os_ast.specs.declared.names.Entity.{Entity}
use Rattle.os_ast.specs.declared.names.Entity.TheVariants as entity
use Rattle.os_ast.specs.declared.names.Entry.{Entry}

-- a scalar of the control program, by its name's number and its slot there
pub record Scalar : Type 0 where
  pub id : ℕ
  pub slot : ℕ

-- `osin_len` is one too, in slot 0
abbrev pub scalar_of : ℕ → Entity → List Scalar
scalar_of id (entity.Control slot) = record { id = id; slot = slot } ∷ []
scalar_of id entity.InputLength = record { id = id; slot = 0 } ∷ []
scalar_of id _ = []

-- the scalars without those of this name
abbrev pub others : ℕ → List Scalar → List Scalar
others id [] = []
others id (c ∷ cs) = if c.id == id then others id cs else c ∷ others id cs

-- The scalars of the control program that are in scope, in the order of their declarations. Declarations are listed from
-- the innermost on, and one of another kind hides a scalar as well.
abbrev pub scalars : List Entry → List Scalar
scalars [] = []
scalars (e ∷ es) = others e.id (scalars es) ++ scalar_of e.id e.entity

-- the scalars whose name is among `ids`
abbrev pub among : List ℕ → List Scalar → List Scalar
among ids cs = filter (λ (c : Scalar). is_in c.id ids) cs

-- What a task with these clauses and this body captures, by what is in scope round it: the scalars of the control
-- program that `firstprivate` lists, or that the body names and doesn't declare. The sizes of its arrays count for
-- nothing here.
abbrev pub captured : List Entry → List ClauseMember → tree.StmtTree → List Scalar
captured es ps body = among (task_names ps body) (scalars es)

-- the slots of scalars in the control program
abbrev pub slots_of : List Scalar → List ℕ
slots_of cs = map (λ c. c.slot) cs
