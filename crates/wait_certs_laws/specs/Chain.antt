-- Chains: why an activation never runs, by the positions of streams alone.
use Rattle.std.specs.Prelude.{◌≡◌, ℕ, ◌+◌, ◌-◌, ◌<◌, ◌≤◌, ◌⊎◌, ◌==◌, ◌&&◌, nat_lt, if◌then◌else◌, List, All, Contains, length, slice_index}
use Rattle.std.specs.Option.{option_map_or}
use Rattle.flow_core_laws.specs.declared.activation.Activation.{Activation}
use Rattle.flow_core_laws.specs.declared.place.Place.{Place}
use Rattle.flow_core_laws.specs.Place.{input_places}
use Rattle.collector.specs.Missing.{producing}

-- Who should give an element.
pub data Giver : Type 0 where
  the_input : Giver
  activation : ℕ → Giver
  nobody : Giver

-- The input gives the elements of stream 0 below its length. Any other element should come from the activation whose
-- write claim covers its position, or comes from nobody.
abbrev pub giver : List Activation → ℕ → Place → Giver
giver activations input_len place =
    if place.stream == 0 && nat_lt place.position input_len then the_input else option_map_or activation (producing activations place) nobody

-- An activation awaits an element of a giver: one that its input windows cover.
abbrev pub Awaits : List Activation → ℕ → ℕ → Giver → Type 0
Awaits activations input_len a from =
    (place : Place) × Contains (input_places activations a) place × (giver activations input_len place ≡ from)

-- the last member of a list that has some
abbrev pub last_of : List ℕ → ℕ
last_of members = slice_index members (length members - 1)

-- A chain is a list of activations, not empty. Each member but the last awaits an element that the next one should give.
-- The last one awaits an element that nobody gives, or one that a member should give, be it an earlier one or itself.
pub record IsChain (activations : List Activation) (input_len : ℕ) (chain : List ℕ) : Type 0 where
  pub has_members : 1 ≤ length chain
  pub members_exist : All (λ a. a < length activations) chain
  pub awaits_next : (k : ℕ) → k + 1 < length chain → Awaits activations input_len (slice_index chain k) (activation (slice_index chain (k + 1)))
  pub ends_in_vain : Awaits activations input_len (last_of chain) nobody
      ⊎ ((a : ℕ) × Contains chain a × Awaits activations input_len (last_of chain) (activation a))
