-- The slots of declarations in scope: those of each lie below those of what was declared behind it.
use Rattle.std.specs.Prelude.{⊤, ℕ, ◌+◌, ◌≤◌, List, [], ◌∷◌, Option, Some, None}
use Rattle.os_ast.specs.declared.names.Entity.{Entity}
use Rattle.os_ast.specs.declared.names.Entity.TheVariants as entity
use Rattle.os_ast.specs.declared.names.Entry.{Entry}

-- the first slot of what is declared, and how many slots it has
pub record Extent : Type 0 where
  pub first : ℕ
  pub size : ℕ

-- the slots of a declaration in a function or in a task
abbrev pub unit_extent : Entity → Option Extent
unit_extent (entity.Scalar slot) = Some record { first = slot; size = 1 }
unit_extent (entity.Array first size) = Some record { first = first; size = size }
unit_extent _ = None

-- the slots of a declaration in the body of `main`
abbrev pub main_extent : Entity → Option Extent
main_extent (entity.Control slot) = Some record { first = slot; size = 1 }
main_extent entity.InputLength = Some record { first = 0; size = 1 }
main_extent (entity.Window slot) = Some record { first = slot; size = 1 }
main_extent _ = None

-- where it begins and where it ends; what has no slots does both where the next would begin
abbrev pub begins : Option Extent → ℕ → ℕ
begins None top = top
begins (Some x) top = x.first

abbrev pub ends : Option Extent → ℕ → ℕ
ends None top = top
ends (Some x) top = x.first + x.size

-- declarations from the innermost on, whose slots lie below a number and below one another
abbrev pub Stacked : (Entity → Option Extent) → ℕ → List Entry → Type 0
Stacked extent top [] = ⊤
Stacked extent top (e ∷ es) = (ends (extent e.entity) top ≤ top) × Stacked extent (begins (extent e.entity) top) es
