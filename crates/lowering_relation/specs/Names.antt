-- Which instructions read and set what a name means. A name of a lawful program means only what may stand where it
-- does; for the rest something is said.
use Rattle.std.specs.Prelude.{ℕ, ◌==◌, Bool, true, false, if◌then◌else◌, List, [], ◌∷◌, pos}
use Rattle.cddf_meaning.specs.ExpressionTypes.{Flags}
use Rattle.os_ast.specs.declared.names.Resolved.{Resolved}
use Rattle.os_ast.specs.declared.names.What.{What}
use Rattle.os_ast.specs.declared.names.What.TheVariants as what
use Rattle.os_code.specs.declared.instr.Instr.{Instr}
use Rattle.os_code.specs.declared.instr.Instr.TheVariants.{Push, Copy, Load, Store, CheckAt, LoadAt, StoreAt, ItemCheck, ItemLoad, ItemStore, Drop, Call}

-- What a list of names tells of the name at a place. Where there is none it is told as a constant of the type `int`.
abbrev pub told_at : List Resolved → ℕ → Resolved
told_at [] place = record { place = place; what = what.Constant (pos 0); unsigned = false }
told_at (r ∷ rs) place = if r.place == place then r else told_at rs place

-- whether what a name means is of the type `unsigned`
abbrev pub flags_by : (ℕ → Resolved) → Flags
flags_by tells n = (tells n.mark.place).unsigned

-- what reads a name without an index; an item's one element has index 0
abbrev pub reading : What → (line : ℕ) → List Instr
reading (what.Constant v) line = Push v ∷ []
reading (what.Scalar slot) line = Load slot ∷ []
reading (what.Element item) line = Push (pos 0) ∷ ItemLoad item line ∷ []
reading (what.View item) line = Push (pos 0) ∷ ItemLoad item line ∷ []
reading _ line = Push (pos 0) ∷ []

-- what reads it with one, which is on the stack
abbrev pub reading_at : What → (line : ℕ) → Instr
reading_at (what.Array first size) line = LoadAt first size line
reading_at (what.Element item) line = ItemLoad item line
reading_at (what.View item) line = ItemLoad item line
reading_at _ line = LoadAt 0 0 line

-- what checks an index, which stays on the stack
abbrev pub checking_at : What → (line : ℕ) → Instr
checking_at (what.Array first size) line = CheckAt size line
checking_at (what.Element item) line = ItemCheck item line
checking_at (what.View item) line = ItemCheck item line
checking_at _ line = CheckAt 0 line

-- what stands before a value that is to be stored: the index of an item's one element
abbrev pub aiming : What → List Instr
aiming (what.Element item) = Push (pos 0) ∷ []
aiming (what.View item) = Push (pos 0) ∷ []
aiming _ = []

-- what stores the top into a name without an index, and with one below the top
abbrev pub storing : What → (line : ℕ) → Instr
storing (what.Scalar slot) line = Store slot
storing (what.Element item) line = ItemStore item line
storing (what.View item) line = ItemStore item line
storing _ line = Drop

abbrev pub storing_at : What → (line : ℕ) → Instr
storing_at (what.Array first size) line = StoreAt first size line
storing_at (what.Element item) line = ItemStore item line
storing_at (what.View item) line = ItemStore item line
storing_at _ line = StoreAt 0 0 line

-- what calls a function
abbrev pub calling : What → Instr
calling (what.Function number) = Call number
calling _ = Drop

-- The old value of a target is fetched where an operator needs it.
abbrev pub fetching : Bool → What → (line : ℕ) → List Instr
fetching true w line = reading w line
fetching false w line = []

-- The index of an element is checked in any case.
abbrev pub fetching_at : Bool → What → (line : ℕ) → List Instr
fetching_at true w line = Copy ∷ reading_at w line ∷ []
fetching_at false w line = checking_at w line ∷ []

-- the numbers of a stream or an array of streams
abbrev pub first_of : What → ℕ
first_of (what.Stream first count) = first
first_of _ = 0

abbrev pub count_of : What → ℕ
count_of (what.Stream first count) = count
count_of _ = 0
