use Rattle.std.proofs.Common.{All, subst, arith}
use Rattle.std.proofs.lemmas.List.{take_all}
use Rattle.std.proofs.lemmas.List.Elements.{All-more}
use Rattle.stream_match_layouts.specs.Lawful.{IsLawfulClaim}
use Rattle.lawful_layouts.proofs.lawful.are_claims_lawful.Goals as goal

pub loop-claim-preserved : goal.loop-claim-preserved
loop-claim-preserved c = All-more (IsLawfulClaim c.args.streams) c.args.claims.now c.loop-claim.claim-index _ c.loop-claim-test.true c.loop-claim.invariant (c.is_lawful.ensures.lawful c.if-not-is_lawful.false)

pub returns-clause-lawful : goal.returns-clause-lawful
returns-clause-lawful c = λ _. subst (All (IsLawfulClaim c.args.streams)) (take_all c.loop-claim.claim-index c.args.claims.now (omega arith)) c.loop-claim.invariant
