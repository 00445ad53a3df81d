use Rattle.std.proofs.Common.{◌≡◌, ◌^◌, ◌-◌, min, take}
use Rattle.cddf_meaning_plain_state.proofs.body_state.horizon_sum.Given as goal
use Rattle.flow_core_laws.specs.Window.{horizon_sum}

abbrev pub invariant-loop-claim : goal.invariant-loop-claim
invariant-loop-claim l = l.sum ≡ min (horizon_sum (take l.claim-index l.claims)) (2 ^ 64 - 1)
