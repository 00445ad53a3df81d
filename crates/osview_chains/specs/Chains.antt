-- Chains of those that wait for one another, and the longest of them.
use Rattle.std.specs.Prelude.{◌≡◌, ◌≤◌, ℕ, ◌+◌, List, [], ◌∷◌, Option, None, IsSome, slice_index_or}
use Rattle.std.specs.Option.{option_map_or}
use Rattle.flow_core_laws.specs.Element.{Source}
use Rattle.osview_outcomes.specs.Order.{WaitsFor}

-- the steps of a frame; 0 where it never ran
abbrev pub steps_at : List (Option ℕ) → ℕ → ℕ
steps_at steps a = option_map_or (λ n. n) (slice_index_or steps a None) 0

-- the steps of all of a chain
abbrev pub chain_steps : List (Option ℕ) → List ℕ → ℕ
chain_steps steps [] = 0
chain_steps steps (a ∷ chain) = steps_at steps a + chain_steps steps chain

-- a chain from one on: each of them ran, and waits for the next one
abbrev pub IsChainFrom : (ℕ → List Source) → List (Option ℕ) → ℕ → List ℕ → Type 0
IsChainFrom reads steps a [] = IsSome (slice_index_or steps a None)
IsChainFrom reads steps a (b ∷ chain) = IsSome (slice_index_or steps a None) × WaitsFor reads a b × IsChainFrom reads steps b chain

abbrev pub IsChain : (ℕ → List Source) → List (Option ℕ) → List ℕ → Type 0
IsChain reads steps [] = Unit {0}
IsChain reads steps (a ∷ chain) = IsChainFrom reads steps a chain

-- A longest chain takes `longest` steps: there is one with as many, and no other one takes more. `steps` has those of each activation that ran.
pub record IsLongest (reads : ℕ → List Source) (steps : List (Option ℕ)) (longest : ℕ) : Type 0 where
  pub chain : List ℕ
  pub is_chain : IsChain reads steps chain
  pub takes : chain_steps steps chain ≡ longest
  pub none_longer : (other : List ℕ) → IsChain reads steps other → chain_steps steps other ≤ longest
