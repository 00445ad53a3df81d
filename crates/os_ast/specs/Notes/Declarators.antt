-- Declarators: what they declare and take, and what stands in them.
use Rattle.std.specs.Prelude.{ℕ, ◌+◌, ◌&&◌, Bool, true, false, not, if◌then◌else◌, List, [], ◌∷◌, ◌++◌, fold}
use Rattle.std.specs.Prelude.{Option, Some, None, unwrap_or, option_and_then, ℤ, pos, negsuc}
use Rattle.os_ast.specs.Limits.{is_size}
use Rattle.os_ast.specs.Names.{Scope, is_main_body, lookup, entity_of, declare, typed}
use Rattle.os_ast.specs.Notes.Expressions.{expr_notes, value_notes, change_notes}
use Rattle.os_ast.specs.Notes.Kinds.{Note, Sized, Declared}
use Rattle.os_ast.specs.Trees as tree
use Rattle.os_ast.specs.declared.names.Owner.{Owner}
use Rattle.os_ast.specs.declared.names.Entity.{Entity}
use Rattle.os_ast.specs.declared.names.Entity.TheVariants as entity
use Rattle.os_ast.specs.declared.names.Form.{Form}
use Rattle.os_ast.specs.declared.names.Form.TheVariants as form_of

abbrev pub constant_of : Option Entity → Option ℤ
constant_of (Some (entity.Constant v)) = Some v
constant_of _ = None

-- The value of a size that is a number or the name of a constant, which stands by its bits: those of an `unsigned` that is no `int`
-- are below 0, and it is no size either.
abbrev pub size_value : Scope → tree.ExprTree → Option ℤ
size_value s (tree.Number n) = Some (pos n)
size_value s (tree.Wide n) = Some (pos n)
size_value s (tree.Place (tree.Variable n)) = constant_of (entity_of (lookup s.entries n.id))
size_value s _ = None

-- the value of a declarator's size, where it has one that is known
abbrev pub size_told : Scope → Option tree.IndexTree → Option ℤ
size_told s i = option_and_then (λ (i : tree.IndexTree). size_value s i.value) i

-- a value as a number of slots or streams; none where it is no size
abbrev pub within_limit : ℤ → Option ℕ
within_limit (pos n) = if is_size (Some (pos n)) then Some n else None
within_limit (negsuc n) = None

abbrev pub limited : Option ℤ → Option ℕ
limited v = option_and_then within_limit v

abbrev pub size_of : Scope → tree.ExprTree → Option ℕ
size_of s e = limited (size_value s e)

-- an array declaration of `main` outside tasks is a window, every other is a local array
abbrev pub sized_form : Owner → Option ℕ → Form
sized_form o size = if is_main_body o then form_of.Window else form_of.Array size

abbrev pub form_with : Scope → Bool → Option tree.IndexTree → Form
form_with s false None = form_of.Scalar
form_with s false (Some i) = sized_form s.owner (size_of s i.value)
form_with s true None = form_of.Stream
form_with s true (Some i) = form_of.Streams (size_of s i.value)

abbrev pub form : Scope → tree.DeclaratorTree → Form
form s d = form_with s d.stream d.size

abbrev pub scalar_entity : Owner → ℕ → Entity
scalar_entity o slot = if is_main_body o then entity.Control slot else entity.Scalar slot

-- where the size is wrong, 0 stands for it
abbrev pub form_entity : Scope → Form → Entity
form_entity s form_of.Scalar = scalar_entity s.owner s.slots
form_entity s (form_of.Array size) = entity.Array s.slots (unwrap_or size 0)
form_entity s form_of.Window = entity.Window s.slots
form_entity s form_of.Stream = entity.Stream (2 + s.streams)
form_entity s (form_of.Streams size) = entity.Streams (2 + s.streams) (unwrap_or size 0)

-- what the name of a declarator is declared as
abbrev pub declared_entity : Scope → tree.DeclaratorTree → Entity
declared_entity s d = form_entity s (form s d)

abbrev pub with_array : Scope → ℕ → Scope
with_array s size = record s { slots = s.slots + size; elements = s.elements + size; arrays = s.arrays + size }

abbrev pub with_streams : Scope → ℕ → Scope
with_streams s count = record s { streams = s.streams + count }

-- what the declarator takes: a scalar or a window one slot, a local array as many as its size
abbrev pub taken : Scope → Form → Scope
taken s (form_of.Array size) = with_array s (unwrap_or size 0)
taken s form_of.Stream = with_streams s 1
taken s (form_of.Streams size) = with_streams s (unwrap_or size 0)
taken s _ = record s { slots = s.slots + 1 }

-- in scope from the end of the declarator, before its first value
abbrev pub after_declarator : Scope → tree.DeclaratorTree → Scope
after_declarator s d = declare (taken s (form s d)) d.name.id (declared_entity s d)

-- the name that a size is; any other expression there isn't looked into
abbrev pub size_notes : Scope → tree.ExprTree → List Note
size_notes s (tree.Place (tree.Variable n)) = Sized s n ∷ []
size_notes s _ = []

-- whether an array declaration is a window
abbrev pub is_window : Owner → Bool
is_window o = is_main_body o

-- the size of a window is any expression
abbrev pub sized_notes : Scope → Bool → Option tree.IndexTree → List Note
sized_notes s stream None = []
sized_notes s stream (Some i) = if is_main_body s.owner && not stream then expr_notes s i.value else size_notes s i.value

abbrev pub declarator_notes : Scope → tree.DeclaratorTree → List Note
declarator_notes s d = Declared s d ∷ sized_notes s d.stream d.size ++ value_notes (after_declarator s d) d.first

abbrev pub after_declarators : Scope → List tree.DeclaratorTree → Scope
after_declarators s ds = fold after_declarator s ds

abbrev pub declarators_notes : Scope → List tree.DeclaratorTree → List Note
declarators_notes s [] = []
declarators_notes s (d ∷ ds) = declarator_notes s d ++ declarators_notes (after_declarator s d) ds

abbrev pub after_start : Scope → tree.StartTree → Scope
after_start s (tree.StartTree.Declare t ds) = after_declarators (typed t s) ds
after_start s _ = s

abbrev pub start_notes : Scope → tree.StartTree → List Note
start_notes s tree.StartTree.Empty = []
start_notes s (tree.StartTree.Declare t ds) = declarators_notes (typed t s) ds
start_notes s (tree.StartTree.Change c) = change_notes s c
