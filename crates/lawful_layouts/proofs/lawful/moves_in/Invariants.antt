use Rattle.std.proofs.Common.{◌≡◌, ◌+◌, ◌-◌, ◌^◌, min, take}
use Rattle.std.specs.Prelude.{sum_by}
use Rattle.flow_core_laws.specs.declared.claim.Claim.{Claim}
use Rattle.lawful_layouts.proofs.lawful.moves_in.Given as goal

abbrev pub invariant-loop-claim : goal.invariant-loop-claim
invariant-loop-claim l = l.sum ≡ min (sum_by (λ (c : Claim). c.skip + c.burst) (take l.claim-index l.claims)) (2 ^ 64 - 1)
