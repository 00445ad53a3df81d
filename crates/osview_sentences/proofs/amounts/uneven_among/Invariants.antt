use Rattle.std.proofs.Common.{◌≡◌, drop, find}
use Rattle.osview_sentences.specs.Amounts.{is_uneven}
use Rattle.osview_sentences.proofs.amounts.uneven_among.Given as goal

-- the first one stands among those that are left
abbrev pub invariant-loop-claim : goal.invariant-loop-claim
invariant-loop-claim l = find (is_uneven l.stream) (drop l.claim-index l.claims) ≡ find (is_uneven l.stream) l.claims
