-- Each claim with its place, and who produces an element.
use Rattle.std.specs.Prelude.{ℕ, ◌+◌, Bool, ◌&&◌, false, nat_lt, nat_le, List, [], ◌++◌, Option}
use Rattle.std.specs.Prelude.{slice_get, slice_index_or, take, length, map, filter, sum_by, find}
use Rattle.std.specs.Bool.{beq}
use Rattle.std.specs.Option.{option_map_or}
use Rattle.std.specs.List.{flat_map, position, range_with_len}
use Rattle.flow_core_laws.specs.declared.claim.Claim.{Claim}
use Rattle.flow_core_laws.specs.declared.activation.Activation.{Activation}
use Rattle.flow_core_laws.specs.FirstPosition.{is_write_to, first_position}

-- A claim with its activation, its first position, and its place among the inputs or the outputs of
-- that activation.
pub record Window : Type 0 where
  pub activation : ℕ
  pub claim : Claim
  pub first : ℕ
  pub offset : ℕ

-- All claims: they are ordered by activation, and within one by clause order.
abbrev pub claims_of : List Activation → List Claim
claims_of activations = flat_map (λ (a : Activation). a.claims) activations

-- the claims of an activation by its number
abbrev pub claims_at : List Activation → ℕ → List Claim
claims_at activations a = option_map_or (λ (x : Activation). x.claims) (slice_get activations a) []

-- the sum of the horizons of claims
abbrev pub horizon_sum : List Claim → ℕ
horizon_sum claims = sum_by (λ (claim : Claim). claim.horizon) claims

-- whether two claims are both read claims, or both write claims
abbrev pub is_alike : Claim → Claim → Bool
is_alike a b = beq a.write b.write

-- The place of a claim among the inputs or the outputs of its activation: the sum of the horizons of
-- those claims before it there that read or write as it does.
abbrev pub offset_after : List Claim → Claim → ℕ
offset_after before claim = sum_by (λ (c : Claim). c.horizon) (filter (is_alike claim) before)

-- what stands for a claim where there is none
abbrev pub no_claim : Claim
no_claim = record { stream = 0; write = false; horizon = 0; burst = 0; skip = 0 }

-- A claim by its number.
abbrev pub claim_at : List Claim → ℕ → Claim
claim_at claims k = slice_index_or claims k no_claim

-- The window of claim k of an activation with these claims: it comes after the claims of the earlier
-- activations and the first k of its own.
abbrev pub window_of : ℕ → List Claim → List Claim → ℕ → Window
window_of activation earlier claims k = record {
  activation = activation;
  claim = claim_at claims k;
  first = first_position (earlier ++ take k claims) (claim_at claims k);
  offset = offset_after (take k claims) (claim_at claims k);
}

-- The windows of an activation with these claims, in clause order, after those of the earlier ones.
abbrev pub windows_behind : ℕ → List Claim → List Claim → List Window
windows_behind activation earlier claims = map (window_of activation earlier claims) (range_with_len 0 (length claims))

-- The windows of an activation, in clause order.
abbrev pub windows_of : List Activation → ℕ → List Window
windows_of activations a = windows_behind a (claims_of (take a activations)) (claims_at activations a)

-- All windows, by activation.
unfoldable pub windows : List Activation → List Window
windows activations = flat_map (windows_of activations) (range_with_len 0 (length activations))

-- whether a window writes the element at a position of a stream: it covers as many positions from
-- its first one on as its horizon
abbrev pub is_written_by : ℕ → ℕ → Window → Bool
is_written_by stream position window = is_write_to stream window.claim && nat_le window.first position && nat_lt position (window.first + window.claim.horizon)

-- The producer of an element: the write claim that covers its position, or none.
abbrev pub producer : List Activation → ℕ → ℕ → Option Window
producer activations stream position = find (is_written_by stream position) (windows activations)

-- The number of its window among all of them.
abbrev pub producer_number : List Activation → ℕ → ℕ → Option ℕ
producer_number activations stream at = position (is_written_by stream at) (windows activations)
