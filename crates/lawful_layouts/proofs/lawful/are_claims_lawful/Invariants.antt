use Rattle.std.proofs.Common.{All, take}
use Rattle.stream_match_layouts.specs.Lawful.{IsLawfulClaim}
use Rattle.lawful_layouts.proofs.lawful.are_claims_lawful.Given as goal

abbrev pub invariant-loop-claim : goal.invariant-loop-claim
invariant-loop-claim l = All (IsLawfulClaim l.streams) (take l.claim-index l.claims)
