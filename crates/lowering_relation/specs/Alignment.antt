-- The variables of a run beside the declarations of the text and the slots of the machine.
use Rattle.std.specs.Prelude.{◌≡◌, ⊤, ◌⊎◌, ℕ, ◌+◌, ◌<◌, ◌≤◌, List, [], ◌∷◌, length, get_or, ℤ, pos}
use Rattle.flow_core_laws.specs.Limits.{horizon_limit}
use Rattle.cddf_meaning.specs.declared.variable.Binding.{Binding}
use Rattle.cddf_meaning.specs.declared.variable.Variable.{Variable}
use Rattle.cddf_meaning.specs.declared.variable.Variable.TheVariants.{Constant, Function, Scalar, Array, Window, Stream, Item}
use Rattle.os_ast.specs.declared.names.Entity.{Entity}
use Rattle.os_ast.specs.declared.names.Entry.{Entry}
use Rattle.os_ast.specs.declared.names.What.{What}
use Rattle.os_ast.specs.declared.names.What.TheVariants as what

-- what a declaration takes stands in the slots from `low` up to `top`
abbrev pub Takes : What → ℕ → ℕ → Type 0
Takes (what.Scalar slot) low top = (slot ≡ low) × (low < top)
Takes (what.Array first size) low top = (first ≡ low) × (low + size ≤ top)
Takes (what.Window slot) low top = (slot ≡ low) × (low < top)
Takes (what.Constant v) low top = low ≤ top
Takes (what.Function f) low top = low ≤ top
Takes (what.Stream first count) low top = low ≤ top
Takes (what.Element item) low top = low ≤ top
Takes (what.View item) low top = low ≤ top

-- The slots of declarations, from the innermost on, lie below those of what was declared behind them.
abbrev pub Stacked : (Entity → What) → ℕ → List Entry → Type 0
Stacked means top [] = ⊤
Stacked means top (e ∷ es) = (low : ℕ) × Takes (means e.entity) low top × Stacked means low es

abbrev pub slot_at : List ℤ → ℕ → ℤ
slot_at slots k = get_or slots k (pos 0)

-- What a body has beside its slots: which items, by their numbers, and which streams, by the first of their numbers.
pub record Resources : Type 1 where
  pub item : ℕ → Type 0
  pub streams : (first count : ℕ) → Type 0

-- A variable of a body is of the kind that its declaration means, and its value stands in its slots. The elements of
-- items stand in windows, where a body has some; constants and functions are the file's.
abbrev pub Holds : Resources → List ℤ → Variable → What → Type 0
Holds has slots (Constant v) w = ⊥
Holds has slots (Function f) w = ⊥
Holds has slots (Scalar v) w = (slot : ℕ) × (w ≡ what.Scalar slot) × (slot_at slots slot ≡ v)
Holds has slots (Array vs) w =
    (first : ℕ) × (w ≡ what.Array first (length vs)) × ((i : ℕ) → i < length vs → slot_at slots (first + i) ≡ slot_at vs i)
Holds has slots (Window horizon) w =
    (slot : ℕ) × (w ≡ what.Window slot) × (slot_at slots slot ≡ pos horizon) × (1 ≤ horizon) × (horizon ≤ horizon_limit)
Holds has slots (Stream first count) w = (w ≡ what.Stream first count) × has.streams first count
Holds has slots (Item item) w = has.item item × ((w ≡ what.Element item) ⊎ (w ≡ what.View item))

-- the variables of a body and its declarations in scope, from the innermost on, one for one, each of the type of its declaration
abbrev pub Aligned : Resources → (Entity → What) → List ℤ → List Binding → List Entry → Type 0
Aligned has means slots [] [] = ⊤
Aligned has means slots [] (e ∷ es) = ⊥
Aligned has means slots (b ∷ bound) [] = ⊥
Aligned has means slots (b ∷ bound) (e ∷ es) =
    (b.id ≡ e.id) × (b.unsigned ≡ e.unsigned) × Holds has slots b.variable (means e.entity) × Aligned has means slots bound es
