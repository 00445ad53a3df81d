-- What is known of the frames on the way through an order.
use Rattle.std.specs.Prelude.{◌≡◌, ◌⊎◌, ℕ, ◌*◌, ◌+◌, ◌<◌, ◌≤◌, List, ◌∷◌, Option, Some, length, slice_get, slice_index}
use Rattle.flow_core_laws.specs.Element.{Source}
use Rattle.flow_core_laws.specs.Plans.{plan_reads}
use Rattle.flow_core_laws.specs.declared.plan.Piece.{Piece}
use Rattle.flow_core_laws.specs.declared.plan.Plan.{Plan}
use Rattle.osview_chains.specs.Chains.{IsChainFrom, chain_steps}
use Rattle.osview_outcomes.specs.Order.{WaitsFor}

-- a piece of some numbers goes from one frame to another
pub record Feeds (plan : Plan) (low high from to : ℕ) : Type 0 where
  pub number : ℕ
  pub piece : Piece
  pub after : low ≤ number
  pub before : number < high
  pub is_there : slice_get plan.pieces number ≡ Some piece
  pub comes_from : piece.from ≡ from
  pub goes_to : piece.to ≡ to

-- the numbers of the frames that pieces of one frame feed were raised to a least one
pub record Raises (plan : Plan) (low high from least : ℕ) (old new : List ℕ) : Type 0 where
  pub as_many : length new ≡ length old
  pub grows : (g : ℕ) → slice_index old g ≤ slice_index new g
  pub raised : (g : ℕ) → Feeds plan low high from g → least ≤ slice_index new g
  pub others : (g : ℕ) → (slice_index new g ≡ slice_index old g) ⊎ ((slice_index new g ≡ least) × Feeds plan low high from g)

-- a number that is 0, or the steps of a chain that begins with a frame of which `holds` is true
pub data IsOfChain (reads : ℕ → List Source) (steps : List (Option ℕ)) (holds : ℕ → Type 0) (n : ℕ) : Type 0 where
  nothing : n ≡ 0 → IsOfChain reads steps holds n
  chain : (b : ℕ) (rest : List ℕ) → IsChainFrom reads steps b rest → holds b → chain_steps steps (b ∷ rest) ≡ n → IsOfChain reads steps holds n

-- The frames before a turn were gone through: `behind` has for each frame the most steps of a chain from one of those, for which it
-- waits, and `most` those of any.
pub record HasGoneThrough (plan : Plan) (order : List ℕ) (steps : List (Option ℕ)) (turn : ℕ) (behind : List ℕ) (most : ℕ) : Type 0 where
  pub as_many : length behind ≡ length plan.frames + 1
  pub small : (g : ℕ) → slice_index behind g ≤ turn * 18446744073709551615
  pub are_of_chains : (g : ℕ) → g < length plan.frames → IsOfChain (plan_reads plan) steps (WaitsFor (plan_reads plan) g) (slice_index behind g)
  pub is_of_chain : IsOfChain (plan_reads plan) steps (λ b. Unit {0}) most
  pub counted : (j : ℕ) (rest : List ℕ) → j < turn → IsChainFrom (plan_reads plan) steps (slice_index order j) rest
      → chain_steps steps (slice_index order j ∷ rest) ≤ most
  pub passed_on : (j g : ℕ) (rest : List ℕ) → j < turn → IsChainFrom (plan_reads plan) steps (slice_index order j) rest
      → g < length plan.frames → WaitsFor (plan_reads plan) g (slice_index order j) → chain_steps steps (slice_index order j ∷ rest) ≤ slice_index behind g
