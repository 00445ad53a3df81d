-- The laws of chains and walks, as statements.
use Rattle.std.specs.Prelude.{◌≡◌, ℕ, ℤ, ◌<◌, ◌≤◌, false, List, Option, Some, All, length, slice_get}
use Rattle.flow_core_laws.specs.declared.activation.Activation.{Activation}
use Rattle.flow_core_laws.specs.declared.outcome.Outcome.{Outcome}
use Rattle.flow_core_laws.specs.declared.task_end.TaskEnd.{TaskEnd}
use Rattle.flow_core_laws.specs.Laws.{IsFilled}
use Rattle.flow_core_laws.specs.Outcome.{ends_of, has_end_at}
use Rattle.flow_core_laws.specs.Streams.{stream_meaning}
use Rattle.stream_match_layouts.specs.Lawful.{AreLawful}
use Rattle.wait_certs_laws.specs.Chain.{IsChain}
use Rattle.wait_certs_laws.specs.Walk.{IsWalk}

-- an activation that has no end by a list of ends
abbrev pub IsStarved : List (Option TaskEnd) → ℕ → Type 0
IsStarved ends a = has_end_at ends a ≡ false

-- the ends in the meaning of activations over an input
abbrev pub ends_in : List Activation → List ℕ → (ℕ → List ℤ → Outcome) → List (Option TaskEnd)
ends_in activations input body = ends_of (stream_meaning activations input body)

-- Each member of a chain is starved in the meaning, whatever the bodies do and whatever the bytes of the input are: the
-- chain speaks of its length alone.
abbrev pub MembersStarve : Type 0
MembersStarve = (activations : List Activation) (input : List ℕ) (body : ℕ → List ℤ → Outcome) (chain : List ℕ)
    → IsChain activations (length input) chain
    → All (λ a. IsStarved (ends_in activations input body) a) chain

-- A fact of each activation that is starved in the meaning of lawful activations, where those that are Done filled
-- their outputs.
abbrev pub OfStarved : (List Activation → ℕ → List (Option TaskEnd) → ℕ → Type 0) → Type 0
OfStarved fact = (streams : ℕ) (activations : List Activation) (input : List ℕ) (body : ℕ → List ℤ → Outcome) (a : ℕ)
    → AreLawful streams activations
    → IsFilled activations (stream_meaning activations input body)
    → a < length activations
    → IsStarved (ends_in activations input body) a
    → fact activations (length input) (ends_in activations input body) a

-- a chain that is no longer than there are activations
pub record IsShortChain (activations : List Activation) (input_len : ℕ) (chain : List ℕ) : Type 0 where
  pub is_chain : IsChain activations input_len chain
  pub is_short : length chain ≤ length activations

-- each walk of an activation is such a chain
abbrev pub WalksAreChains : List Activation → ℕ → List (Option TaskEnd) → ℕ → Type 0
WalksAreChains activations input_len ends a = (members : List ℕ) → IsWalk activations input_len ends a members → IsShortChain activations input_len members

-- an activation has one walk at most, by any ends
abbrev pub OneWalk : Type 0
OneWalk = (activations : List Activation) (input_len : ℕ) (ends : List (Option TaskEnd)) (a : ℕ) (members others : List ℕ)
    → IsWalk activations input_len ends a members → IsWalk activations input_len ends a others → members ≡ others

-- there is a short chain that begins with the activation, and it is its walk
abbrev pub HasChain : List Activation → ℕ → List (Option TaskEnd) → ℕ → Type 0
HasChain activations input_len ends a =
    (chain : List ℕ) × (slice_get chain 0 ≡ Some a) × IsShortChain activations input_len chain × IsWalk activations input_len ends a chain
