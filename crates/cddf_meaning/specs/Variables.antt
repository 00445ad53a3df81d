-- Names and the variables that they stand for. A list of declarations has the innermost one first.
use Rattle.std.specs.Prelude.{ℕ, ◌-◌, ◌==◌, Bool, if◌then◌else◌, List, [], ◌∷◌, drop, length, Option, Some, None}
use Rattle.cddf_meaning.specs.declared.variable.Binding.{Binding}
use Rattle.cddf_meaning.specs.declared.variable.Variable.{Variable}

-- A variable is in scope from here on, of the type `unsigned` or `int`.
abbrev pub bind : ℕ → Bool → Variable → List Binding → List Binding
bind id unsigned v bound = record { id = id; variable = v; unsigned = unsigned } ∷ bound

-- what a name stands for: the innermost declaration of it counts, which is listed first
abbrev pub find : List Binding → ℕ → Option Variable
find [] id = None
find (b ∷ bound) id = if b.id == id then Some b.variable else find bound id

-- whether what a name stands for is of the type `unsigned`; where it stands for nothing here, what is said of it elsewhere
abbrev pub flag_or : Bool → List Binding → ℕ → Bool
flag_or elsewhere [] id = elsewhere
flag_or elsewhere (b ∷ bound) id = if b.id == id then b.unsigned else flag_or elsewhere bound id

-- The innermost variable of that name is changed, and no other. Its type stays.
abbrev pub assign : List Binding → ℕ → Variable → List Binding
assign [] id v = []
assign (b ∷ bound) id v = if b.id == id then bind b.id b.unsigned v bound else b ∷ assign bound id v

-- Behind a scope what was declared in it is gone. What was declared before it stands at the end of the list, with the
-- values that it has now.
abbrev pub leave : List Binding → List Binding → List Binding
leave outer inner = drop (length inner - length outer) inner
