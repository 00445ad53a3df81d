-- What a name token means to the stages after the checks: numbers of functions, slots, streams and items.
use Rattle.std.specs.Prelude.{ℕ, Bool, ◌==◌, List, position, unwrap_or}
use Rattle.os_ast.specs.declared.names.What.{What}
use Rattle.os_ast.specs.declared.names.What.TheVariants as what
use Rattle.os_ast.specs.declared.names.Owner.{Owner}
use Rattle.os_ast.specs.declared.names.Owner.TheVariants as owner
use Rattle.os_ast.specs.declared.names.Entity.{Entity}
use Rattle.os_ast.specs.declared.names.Entity.TheVariants as entity
use Rattle.os_ast.specs.declared.names.Resolved.{Resolved}

-- What a declaration means where its function, task or `main` names it. `osin_len` is slot 0 of the control program.
abbrev pub what_declared : Entity → What
what_declared (entity.Constant v) = what.Constant v
what_declared (entity.Function number params) = what.Function number
what_declared (entity.Scalar slot) = what.Scalar slot
what_declared (entity.Control slot) = what.Scalar slot
what_declared entity.InputLength = what.Scalar 0
what_declared (entity.Array first size) = what.Array first size
what_declared (entity.Window slot) = what.Window slot
what_declared (entity.Stream number) = what.Stream number 1
what_declared (entity.Streams first count) = what.Stream first count
what_declared (entity.Element item d) = what.Element item
what_declared (entity.View item d) = what.View item

-- the place of a slot among those that a task captures
abbrev pub place_in : List ℕ → ℕ → ℕ
place_in slots slot = unwrap_or (position (λ s. s == slot) slots) 0

-- A scalar that a task captures has its place among the captured ones as slot.
abbrev pub meaning_in_task : List ℕ → Entity → What
meaning_in_task captured (entity.Control slot) = what.Scalar (place_in captured slot)
meaning_in_task captured entity.InputLength = what.Scalar (place_in captured 0)
meaning_in_task captured e = what_declared e

-- what a declaration means where a body of this owner names it
abbrev pub meaning_in : Owner → List ℕ → Entity → What
meaning_in owner.OfTask captured e = meaning_in_task captured e
meaning_in owner.OfMain captured e = what_declared e
meaning_in owner.OfFunction captured e = what_declared e

-- a name token, by its place, what it means, and whether that is of the type `unsigned`
abbrev pub resolved : ℕ → What → Bool → Resolved
resolved place w unsigned = record { place = place; what = w; unsigned = unsigned }
