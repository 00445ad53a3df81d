use Rattle.std.proofs.Common.{◌≡◌, ◌<◌, ◌++◌, All, length, take, drop}
use Rattle.flow_core_laws.specs.declared.claim.Claim.{Claim}
use Rattle.os_code.specs.Machine.{claims_with_skips, skips_after_all}
use Rattle.control_run.proofs.ticked.take_skips.Given as goal

abbrev pub invariant-loop-k : goal.invariant-loop-k
invariant-loop-k l = record {
  claims : take l.k l.claims ++ claims_with_skips l.skips (drop l.k l.claims) ≡ claims_with_skips l.fn.skips l.fn.claims;
  skips : skips_after_all l.skips (drop l.k l.claims) ≡ skips_after_all l.fn.skips l.fn.claims;
  sized : length l.skips ≡ length l.fn.skips;
  streams : All (λ (claim : Claim). claim.stream < length l.fn.skips) l.claims;
}
