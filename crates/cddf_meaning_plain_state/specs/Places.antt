-- The place of a declaration in a list that has the innermost one last.
use Rattle.std.specs.Prelude.{◌≡◌, ℕ, ◌<◌, Bool, List, length, get_or, set, reverse, Option, Some, None}
use Rattle.cddf_meaning.specs.Variables.{find, flag_or, assign}
use Rattle.cddf_meaning.specs.declared.variable.Binding.{Binding}
use Rattle.cddf_meaning.specs.declared.variable.Variable.{Variable}

-- the declaration at this place is the innermost of the name
pub record IsInnermostPlace (bound : List Binding) (id : ℕ) (place : ℕ) : Type 0 where
  pub inside : place < length bound
  pub named : (d : Binding) → (get_or bound place d).id ≡ id
  pub found : (d : Binding) → find (reverse bound) id ≡ Some (get_or bound place d).variable
  pub flagged : (d : Binding) (elsewhere : Bool) → flag_or elsewhere (reverse bound) id ≡ (get_or bound place d).unsigned
  pub changed : (d : Binding) (v : Variable) →
      assign (reverse bound) id v ≡ reverse (set bound place (record { id = id; variable = v; unsigned = (get_or bound place d).unsigned }))

abbrev pub IsInnermost : List Binding → ℕ → Option ℕ → Type 0
IsInnermost bound id None = find (reverse bound) id ≡ None
IsInnermost bound id (Some place) = IsInnermostPlace bound id place
