-- Where there is something to warn of, by the tokens of an accepted program.
use Rattle.std.specs.Prelude.{◌≡◌, ◌≢◌, ℕ, ◌+◌, ◌<◌, Bool, true, false, List, length, slice_index_or, Option, Some, None}
use Rattle.std.specs.List.{slice_get}
use Rattle.os_lexer.specs.Names.{omp_id, task_id, first_own_id}
use Rattle.os_lexer.specs.declared.token.Kind.{Kind}
use Rattle.os_lexer.specs.declared.token.Kind.TheVariants as kind
use Rattle.os_lexer.specs.declared.token.Token.{Token}

abbrev pub kind_of : Option Token → Option Kind
kind_of None = None
kind_of (Some t) = Some t.kind

-- the kind of the token at a place
abbrev pub kind_at : List Token → ℕ → Option Kind
kind_at tokens place = kind_of (slice_get tokens place)

-- A task without clauses begins at a place: `#pragma omp task`, and the end of the line.
abbrev pub IsBareTask : List Token → ℕ → Type 0
IsBareTask tokens place =
    (kind_at tokens place ≡ Some kind.PragmaStart) × (kind_at tokens (place + 1) ≡ Some (kind.Name omp_id))
    × (kind_at tokens (place + 2) ≡ Some (kind.Name task_id)) × (kind_at tokens (place + 3) ≡ Some kind.PragmaEnd)

-- a token of a kind stands at another place too
abbrev pub StandsElsewhere : List Token → ℕ → Kind → Type 0
StandsElsewhere tokens place k = (other : ℕ) × (other ≢ place) × (kind_at tokens other ≡ Some k)

-- A name stands at a place, and nowhere else. A name has the number `first_own_id` plus the place of the first token that is
-- spelled so; those that mean something in every program have smaller ones.
abbrev pub IsLoneName : List Token → ℕ → Type 0
IsLoneName tokens place =
    (kind_at tokens place ≡ Some (kind.Name (first_own_id + place))) × (StandsElsewhere tokens place (kind.Name (first_own_id + place)) → ⊥)

-- there is a mark for each place, which says whether the name that stands there first stands elsewhere too
pub record AreRepeated (tokens : List Token) (marks : List Bool) : Type 0 where
  pub counted : length marks ≡ length tokens
  pub sound : (place : ℕ) → slice_index_or marks place false ≡ true → StandsElsewhere tokens place (kind.Name (first_own_id + place))
  pub complete : (place : ℕ) → place < length tokens → StandsElsewhere tokens place (kind.Name (first_own_id + place))
      → slice_index_or marks place false ≡ true
