-- What names mean: declarations, scopes, and what is in scope at a place.
use Rattle.std.specs.Prelude.{ℕ, ◌+◌, ◌==◌, Bool, true, false, if◌then◌else◌, List, [], ◌∷◌, find, Option}
use Rattle.std.specs.Prelude.{ℤ, pos, neg_ℤ, ◌^◌, unsigned_abs}
use Rattle.std.specs.Option.{option_map, option_map_or}
use Rattle.std.specs.Int.{w32, cast_signed, int_rem_euclid}
-- the numbers that the lexer gives the names which a program doesn't declare, or that mean more than others
pub use Rattle.os_lexer.specs.Names.{main_id, osin_id, osout_id, osin_len_id}
use Rattle.os_ast.specs.Unsigned.{is_unsigned}
use Rattle.os_ast.specs.declared.names.Entity.{Entity}
use Rattle.os_ast.specs.declared.names.Entry.{Entry}
use Rattle.os_ast.specs.declared.names.Owner.{Owner}
use Rattle.os_ast.specs.declared.names.Owner.TheVariants as owner
use Rattle.os_ast.specs.declared.program.Constant.{Constant as ConstantItem}
use Rattle.os_ast.specs.declared.ty.Ty.{Ty}

-- A place of the program: what is in scope there, from the innermost declaration on, how many scopes are open inside
-- that of the file, whose body it is, whether a loop of that body is round it, and what is taken by the declarations before it.
pub record Scope : Type 0 where
  pub entries : List Entry
  pub depth : ℕ
  pub owner : Owner
  pub loop : Bool
  -- where it is a task's body, the slots in `main` of the scalars that the task captures
  pub captured : List ℕ
  -- the slots of this function, task or `main`, and the elements of its local arrays
  pub slots : ℕ
  pub elements : ℕ
  -- of the program so far: the elements of local arrays, the streams, the functions
  pub arrays : ℕ
  pub streams : ℕ
  pub functions : ℕ
  -- whether the last declaration is of the type `unsigned`
  pub unsigned : Bool

-- whether a body is that of `main`
abbrev pub is_main_body : Owner → Bool
is_main_body owner.OfMain = true
is_main_body _ = false

-- A body begins: a function's or a task's, with slots and elements of its own and in no loop.
abbrev pub in_unit : Owner → Scope → Scope
in_unit o s = record s { owner = o; loop = false; captured = []; slots = 0; elements = 0 }

-- the declaration that a name means: the innermost one, which is listed first
abbrev pub lookup : List Entry → ℕ → Option Entry
lookup es id = find (λ (e : Entry). e.id == id) es

-- what a name is declared as where it stands
abbrev pub entity_of : Option Entry → Option Entity
entity_of e = option_map (λ (e : Entry). e.entity) e

-- whether what a name is declared as where it stands is of the type `unsigned`
abbrev pub flag_of : Option Entry → Bool
flag_of e = option_map_or (λ (e : Entry). e.unsigned) e false

abbrev pub stands_at : ℕ → Option Entry → Bool
stands_at depth e = option_map_or (λ (e : Entry). e.depth == depth) e false

-- a name is declared already in the innermost scope
abbrev pub is_declared : Scope → ℕ → Bool
is_declared s id = stands_at s.depth (lookup s.entries id)

-- A declaration of a type begins.
abbrev pub flagged : Bool → Scope → Scope
flagged unsigned s = record s { unsigned = unsigned }

abbrev pub typed : Ty → Scope → Scope
typed t s = flagged (is_unsigned t) s

-- the scope with one more declaration, of the type that was begun with
abbrev pub declare : Scope → ℕ → Entity → Scope
declare s id e = record s { entries = record { id = id; depth = s.depth; entity = e; unsigned = s.unsigned } ∷ s.entries }

-- a new innermost scope
abbrev pub enter : Scope → Scope
enter s = record s { depth = s.depth + 1 }

-- After an inner scope its declarations are gone, and what they took stays taken.
abbrev pub leave : Scope → Scope → Scope
leave outer inner = record inner { entries = outer.entries; depth = outer.depth; loop = outer.loop }

-- Behind the body of a function or a task all is as round it, but what the body took of the program stays taken.
abbrev pub after_unit : Scope → Scope → Scope
after_unit outer inner = record (leave outer inner) { owner = outer.owner; captured = outer.captured; slots = outer.slots; elements = outer.elements }

-- inside a loop
abbrev pub in_loop : Scope → Scope
in_loop s = record s { loop = true }

-- behind a loop, whether one is round the place is as before it
abbrev pub behind : Scope → Scope → Scope
behind before body = record body { loop = before.loop }

-- The 32 bits of a constant, as an `int`: its number, or that below 0 behind a `-`, modulo 2^32. No number is anything else as
-- an `int` or as an `unsigned` that it is converted to.
abbrev pub constant_value : ConstantItem → ℤ
constant_value c = cast_signed w32 (unsigned_abs (int_rem_euclid (if c.minus then neg_ℤ (pos c.size) else pos c.size) (pos (2 ^ 32))))
