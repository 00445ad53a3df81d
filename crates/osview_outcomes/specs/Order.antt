-- Which frame waits for which, and orders in which each stands behind those that it waits for.
use Rattle.std.specs.Prelude.{◌≡◌, ℕ, ◌<◌, List, Contains, length, slice_index}
use Rattle.flow_core_laws.specs.Element.{Source, fed}

-- One frame waits for another: something that it reads is an element that the other one writes. `reads` says from where each has its inputs.
pub record WaitsFor (reads : ℕ → List Source) (a b : ℕ) : Type 0 where
  pub place : ℕ
  pub is_read : Contains (reads a) (fed b place)

-- A list of some of the first `count` of them, in which each stands behind those that it waits for.
pub record IsInOrder (reads : ℕ → List Source) (count : ℕ) (order : List ℕ) : Type 0 where
  pub exist : (k : ℕ) → k < length order → slice_index order k < count
  pub behind : (k f : ℕ) → k < length order → WaitsFor reads (slice_index order k) f → (j : ℕ) × (j < k) × (slice_index order j ≡ f)
