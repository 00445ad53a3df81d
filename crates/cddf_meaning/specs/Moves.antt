-- What evaluations and statements leave as it is: turns never grow, and items keep their lengths.
use Rattle.std.specs.Prelude.{◌≡◌, ⊤, ℕ, ◌+◌, ◌≤◌, if◌then◌else◌, List, [], ◌∷◌, length, map, Ok, Err, ℤ}
use Rattle.cddf_meaning.specs.Answers.{Answer, Left}
use Rattle.cddf_meaning.specs.File.{File}
use Rattle.cddf_meaning.specs.Flow.{Ran, Went, Ended}
use Rattle.cddf_meaning.specs.BodyState.{BodyState}
use Rattle.flow_core_laws.specs.declared.claim.Claim.{Claim}

-- the turns that are left are no more than there were
abbrev pub Falls : {A : Type 0} → ℕ → Answer (Left A) → Type 0
Falls turns (Ok n) = n.turns ≤ turns
Falls turns (Err ending) = ⊤

-- no call of a function of the file leaves more turns than there were
abbrev pub CallsFall : File → Type 0
CallsFall file = (n : ℕ) (args : List ℤ) (turns : ℕ) → Falls turns (file.calls n args turns)

-- how many elements each item has
abbrev pub item_lengths : BodyState → List ℕ
item_lengths s = map length s.items

-- behind a statement there are no more turns than before it, and the items have as many elements
abbrev pub Keeps : BodyState → ℕ → Ran → Type 0
Keeps s turns (Went flow behind left) = (left ≤ turns) × (item_lengths behind ≡ item_lengths s)
Keeps s turns (Ended ending activations) = ⊤

-- the sum of the horizons of the write claims, or of the read claims
abbrev pub written_horizons : List Claim → ℕ
written_horizons [] = 0
written_horizons (c ∷ cs) = (if c.write then c.horizon else 0) + written_horizons cs

abbrev pub read_horizons : List Claim → ℕ
read_horizons [] = 0
read_horizons (c ∷ cs) = (if c.write then 0 else c.horizon) + read_horizons cs
