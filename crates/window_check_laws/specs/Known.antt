-- What is in scope where something stands in a lawful program.
use Rattle.std.specs.Prelude.{⊤, ◌≡◌, ℕ, suc, ◌+◌, ◌<◌, ◌≤◌, ◌==◌, if◌then◌else◌, List, [], ◌∷◌, length, Option, Some, None, unwrap_or, ℤ, pos}
use Rattle.os_ast.specs.Names.{Scope, lookup, entity_of, constant_value}
use Rattle.os_ast.specs.Notes.Declarators.{limited, constant_of}
use Rattle.os_ast.specs.Notes.Kinds.{Note, Used, Sized, Declared, Parameter, Global, Left, Returned, Pragma, Task, Listed}
use Rattle.os_ast.specs.Notes.Programs.{param_list}
use Rattle.os_ast.specs.Stacked.{Stacked}
use Rattle.os_ast.specs.Trees as tree
use Rattle.os_ast.specs.Violations.{streams}
use Rattle.os_ast.specs.declared.names.Entity.{Entity}
use Rattle.os_ast.specs.declared.names.Entity.TheVariants as entity
use Rattle.window_check_laws.specs.Sums.{extent_in}

-- what the item of a name declares, where `number` functions stand before the items
abbrev pub global_behind : ℕ → List tree.ItemTree → ℕ → Option Entity
global_behind number [] id = None
global_behind number (tree.Constant c ∷ is) id =
    if c.name.id == id then Some (entity.Constant (constant_value c)) else global_behind number is id
global_behind number (tree.Function f ∷ is) id =
    if f.name.id == id then Some (entity.Function number (length (param_list f.params))) else global_behind (suc number) is id

-- what the item of a name declares in a program
abbrev pub global : tree.ProgramTree → ℕ → Option Entity
global p id = global_behind 0 p id

-- What a name is declared as in a scope. A constant or a function is the item of that name; as many functions stand
-- before the scope as it has counted, and this is one of them. A stream is one of the program's.
abbrev pub IsKnown : tree.ProgramTree → Scope → ℕ → Entity → Type 0
IsKnown p s id (entity.Constant v) = global p id ≡ Some (entity.Constant v)
IsKnown p s id (entity.Function number params) = (global p id ≡ Some (entity.Function number params)) × (number < s.functions)
IsKnown p s id (entity.Stream number) = number < streams p
IsKnown p s id (entity.Streams first count) = first + count ≤ streams p
IsKnown p s id (entity.Scalar slot) = ⊤
IsKnown p s id (entity.Control slot) = ⊤
IsKnown p s id entity.InputLength = ⊤
IsKnown p s id (entity.Array first size) = ⊤
IsKnown p s id (entity.Window slot) = ⊤
IsKnown p s id (entity.Element item d) = ⊤
IsKnown p s id (entity.View item d) = ⊤

-- all that is in scope is known, and its slots lie above one another
pub record IsSoundScope (p : tree.ProgramTree) (s : Scope) : Type 0 where
  pub known : (id : ℕ) (e : Entity) → entity_of (lookup s.entries id) ≡ Some e → IsKnown p s id e
  pub stacked : Stacked (extent_in s.owner) s.slots s.entries

-- the name is that of a constant, there and in the program
pub record IsConstant (p : tree.ProgramTree) (s : Scope) (id : ℕ) : Type 0 where
  pub value : ℤ
  pub there : entity_of (lookup s.entries id) ≡ Some (entity.Constant value)
  pub declared : global p id ≡ Some (entity.Constant value)

-- The size of a local array, by a number or by the name of a constant among the program's items. Where it is none, 0
-- stands for it.
abbrev pub size_in : tree.ProgramTree → tree.ExprTree → ℕ
size_in p (tree.Number n) = unwrap_or (limited (Some (pos n))) 0
size_in p (tree.Wide n) = unwrap_or (limited (Some (pos n))) 0
size_in p (tree.Place (tree.Variable n)) = unwrap_or (limited (constant_of (global p n.id))) 0
size_in p _ = 0

-- what stands in a program stands in such a scope, and a name that is a size is that of a constant
abbrev pub Stands : tree.ProgramTree → Note → Type 0
Stands p (Used s n u) = IsSoundScope p s
Stands p (Sized s n) = IsSoundScope p s × IsConstant p s n.id
Stands p (Declared s d) = IsSoundScope p s
Stands p (Parameter s n) = IsSoundScope p s
Stands p (Global s n) = IsSoundScope p s
Stands p (Left s m) = IsSoundScope p s
Stands p (Returned s m) = IsSoundScope p s
Stands p (Pragma s m) = IsSoundScope p s
Stands p (Task s m items captured) = IsSoundScope p s
Stands p (Listed before n) = ⊤
