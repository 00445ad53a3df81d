-- Why activations of a run starve, as its report and `explain` tell it, as statements over its activations, its input and their ends.
use Rattle.std.specs.Prelude.{◌≡◌, ℕ, ℤ, ◌<◌, All, Contains, IfSome, List, Some, length, slice_get}
use Rattle.collector.specs.Missing.{missing}
use Rattle.collector.specs.Report.{activation_line, starved_line}
use Rattle.collector.specs.declared.missing.Missing.{Missing}
use Rattle.flow_core_laws.specs.Laws.{IsFilled}
use Rattle.flow_core_laws.specs.Streams.{meant_ends, stream_meaning}
use Rattle.flow_core_laws.specs.declared.activation.Activation.{Activation}
use Rattle.flow_core_laws.specs.declared.ends.Ends.{Ends}
use Rattle.flow_core_laws.specs.declared.outcome.Outcome.{Outcome}
use Rattle.stream_match_layouts.specs.Lawful.{AreLawful}
use Rattle.wait_certs.specs.Finding.{IsFinding}
use Rattle.wait_certs.specs.declared.finding.Finding.{Finding}
use Rattle.wait_certs.specs.declared.finding.Finding.TheVariants as finding
use Rattle.wait_certs_laws.specs.Chain.{last_of}
use Rattle.wait_certs_laws.specs.Laws.{HasChain, IsShortChain, IsStarved, WalksAreChains}
use Rattle.wait_certs_laws.specs.Walk.{IsWalk}

-- The activations are lawful. What they come to is their meaning with some bodies, in which each activation that is done filled its
-- output windows.
pub record AreOfLawful (activations : List Activation) (input : List ℕ) (ends : Ends) : Type 0 where
  pub streams : ℕ
  pub lawful : AreLawful streams activations
  pub body : ℕ → List ℤ → Outcome
  pub ends_are : ends ≡ meant_ends activations input body
  pub filled : IsFilled activations (stream_meaning activations input body)

-- an activation that has no end
abbrev pub Starves : List Activation → Ends → ℕ → Type 0
Starves activations ends a = (a < length activations) × IsStarved ends.ends a

-- A list of activations is the chain of one that starves: it begins with it, is no longer than there are activations, and is its only
-- walk. All its members starve. The last one misses an element that nobody should write, or that a member should.
pub record IsChainOf (activations : List Activation) (input_len : ℕ) (ends : Ends) (a : ℕ) (members : List ℕ) (last : Missing) : Type 0 where
  pub begins : slice_get members 0 ≡ Some a
  pub is_chain : IsShortChain activations input_len members
  pub is_walk : IsWalk activations input_len ends.ends a members
  pub only : (others : List ℕ) → IsWalk activations input_len ends.ends a others → others ≡ members
  pub members_starve : All (Starves activations ends) members
  pub misses : missing activations input_len ends.ends (last_of members) ≡ Some last
  pub in_vain : IfSome last.producer (Contains members)

-- What holds of each activation that starves. It has a chain that begins with it, is no longer than there are activations, and is its
-- walk; and each of its walks is such a chain. What there is to tell of it, as `explain` does, is its chain, with what the last member
-- misses. The report has its line, with the first element that it misses, and a producer that this names starves.
pub record StarveByChains (activations : List Activation) (input : List ℕ) (ends : Ends) : Type 0 where
  pub chains : (a : ℕ) → Starves activations ends a → HasChain activations (length input) ends.ends a
  pub walks : (a : ℕ) → Starves activations ends a → WalksAreChains activations (length input) ends.ends a
  pub explained : (a : ℕ) (found : Finding) → Starves activations ends a → IsFinding activations (length input) ends.ends a found
      → (members : List ℕ) × (last : Missing) × (found ≡ finding.Starved members (Some last))
      × IsChainOf activations (length input) ends a members last
  pub told : (a : ℕ) → Starves activations ends a → (first : Missing)
      × (missing activations (length input) ends.ends a ≡ Some first)
      × (activation_line activations (length input) ends.ends a ≡ starved_line a first)
      × IfSome first.producer (Starves activations ends)
