-- The activations that a layout takes.
use Rattle.std.specs.Prelude.{◌≡◌, ◌≢◌, ℕ, ◌+◌, ◌^◌, ◌<◌, ◌≤◌, true, false, List, All, length, sum_by}
use Rattle.flow_core_laws.specs.Limits.{activations_limit, horizon_limit, positions_limit}
use Rattle.flow_core_laws.specs.declared.claim.Claim.{Claim}
use Rattle.flow_core_laws.specs.declared.activation.Activation.{Activation}
use Rattle.flow_core_laws.specs.Window.{claims_of}

-- A claim on one of `streams` streams: it covers 1 to 65,536 positions, nobody writes the input or reads
-- the output, and a write claim moves its cursor by what it covers.
pub record IsLawfulClaim (streams : ℕ) (claim : Claim) : Type 0 where
  pub stream_exists : claim.stream < streams
  pub smallest : 1 ≤ claim.horizon
  pub largest : claim.horizon ≤ horizon_limit
  pub input_is_read : claim.write ≡ true → claim.stream ≢ 0
  pub output_is_written : claim.write ≡ false → claim.stream ≢ 1
  pub writes_move_by_their_horizon : claim.write ≡ true → claim.burst ≡ claim.horizon

-- Activations within the limits of a run: at most 65,536, whose claims are lawful and cover at most
-- 4,194,304 positions together; and no cursor comes near the end of its type.
pub record AreLawful (streams : ℕ) (activations : List Activation) : Type 0 where
  pub activations_are_few : length activations ≤ activations_limit
  pub claims_are_lawful : All (IsLawfulClaim streams) (claims_of activations)
  pub positions_are_few : sum_by (λ (c : Claim). c.horizon) (claims_of activations) ≤ positions_limit
  pub cursors_are_small : sum_by (λ (c : Claim). c.skip + c.burst) (claims_of activations) < 2 ^ 62
