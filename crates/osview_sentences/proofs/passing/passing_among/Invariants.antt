use Rattle.std.proofs.Common.{◌≡◌, drop, find}
use Rattle.osview_sentences.specs.Passing.{passes}
use Rattle.osview_sentences.proofs.passing.passing_among.Given as goal

-- the first one stands among those that are left
abbrev pub invariant-loop-claim : goal.invariant-loop-claim
invariant-loop-claim l = find passes (drop l.claim-index l.claims) ≡ find passes l.claims
