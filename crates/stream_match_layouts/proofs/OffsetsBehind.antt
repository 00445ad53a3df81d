-- The offsets behind the first claims of an activation.
use Rattle.std.proofs.Common.{◌≡◌, ℕ, ◌+◌, ◌^◌, ◌<◌, ◌≤◌, Bool, true, false, cond, List, length, take, refl, ap, ◌∙◌, arith}
use Rattle.std.specs.Bool.{beq}
use Rattle.flow_core_laws.specs.declared.claim.Claim.{Claim}
use Rattle.flow_core_laws.specs.Window.{claim_at}
use Rattle.stream_match_layouts.specs.declared.offsets.Offsets.{Offsets}
use Rattle.stream_match_layouts.specs.Offsets.{offset_by, offsets_behind}
use Rattle.stream_match_layouts.proofs.Appending.{alike-more}
use Rattle.stream_match_layouts.proofs.Windows.{alike}

-- The offsets are those behind these claims.
pub record AreBehind (claims : List Claim) (offsets : Offsets) : Type 0 where
  pub inputs : offsets.inputs ≡ alike false claims
  pub outputs : offsets.outputs ≡ alike true claims

-- a claim lies behind the alike ones
pub offset_by-alike : (claims : List Claim) (offsets : Offsets) (claim : Claim) → AreBehind claims offsets → offset_by offsets claim ≡ alike claim.write claims
offset_by-alike claims offsets claim behind = at claim.write
  where
    at : (b : Bool) → cond b offsets.outputs offsets.inputs ≡ alike b claims
    at true = behind.outputs
    at false = behind.inputs

-- its window fits where the horizons of the alike ones and its own are few
pub offset-fits : (claims : List Claim) (offsets : Offsets) (claim : Claim) → AreBehind claims offsets → ((b : Bool) → alike b claims + claim.horizon ≤ 4194304) → offset_by offsets claim + claim.horizon < 2 ^ 32
offset-fits claims offsets claim behind few = omega (arith, offset_by-alike claims offsets claim behind, few claim.write)

-- one more claim
pub behind-more : (cl : List Claim) (k : ℕ) (claim : Claim) (offsets after : Offsets) → k < length cl → claim ≡ claim_at cl k → AreBehind (take k cl) offsets → after ≡ offsets_behind offsets claim → AreBehind (take (k + 1) cl) after
behind-more cl k claim offsets after lt is behind moved = record {
  inputs = alike-more false cl k offsets.inputs after.inputs claim lt is behind.inputs (ap (λ (o : Offsets). o.inputs) moved ∙ read claim.write);
  outputs = alike-more true cl k offsets.outputs after.outputs claim lt is behind.outputs (ap (λ (o : Offsets). o.outputs) moved ∙ written claim.write);
}
  where
    read : (b : Bool) → cond b offsets.inputs (offsets.inputs + claim.horizon) ≡ offsets.inputs + cond (beq false b) claim.horizon 0
    read true = omega arith
    read false = refl

    written : (b : Bool) → cond b (offsets.outputs + claim.horizon) offsets.outputs ≡ offsets.outputs + cond (beq true b) claim.horizon 0
    written true = refl
    written false = omega arith
