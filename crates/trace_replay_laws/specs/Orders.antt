-- Orders in which activations get their outcomes, one at a time. What sources, values and outcomes (S, V, O) are is left
-- open: `element` gives the element of a source in a state, if it is there, `reads` the sources of each activation's inputs,
-- and `body` what it makes of them, for activations 0 to count - 1.
use Rattle.std.specs.Prelude.{ℕ, ◌<◌, List, [], ◌∷◌, Option, None, replicate, slice_set}
use Rattle.flow_core_laws.specs.Round.{IsEnabled, after_round}

module _ {S V O : Type 0} (element : List (Option O) → S → Option V) (reads : ℕ → List S) (body : ℕ → List V → O) where
  -- The state after an activation got what a round gives it. The others are as they were.
  abbrev pub after : List (Option O) → ℕ → List (Option O)
  after state activation = slice_set state activation (after_round element reads body state activation)

  -- The state after activations got their outcomes in this order.
  abbrev pub after_all : List (Option O) → List ℕ → List (Option O)
  after_all state [] = state
  after_all state (activation ∷ order) = after_all (after state activation) order

  -- An order is lawful from a state on where each activation in it exists, and is enabled in the state in which those before it
  -- have their outcomes.
  abbrev pub IsLawfulFrom : ℕ → List (Option O) → List ℕ → Type 0
  IsLawfulFrom count state [] = Unit {0}
  IsLawfulFrom count state (activation ∷ order) =
      (activation < count) × IsEnabled element reads state activation × IsLawfulFrom count (after state activation) order

  -- The state after an order, from the state without outcomes.
  abbrev pub state_after : ℕ → List ℕ → List (Option O)
  state_after count order = after_all (replicate count None) order

  -- An order is lawful where it is so from the state without outcomes.
  abbrev pub IsLawful : ℕ → List ℕ → Type 0
  IsLawful count order = IsLawfulFrom count (replicate count None) order
