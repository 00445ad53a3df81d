use Rattle.std.proofs.Common.{◌≡◌, ◌++◌, drop}
use Rattle.cddf_meaning.specs.Claims.{moves_behind, with_skips}
use Rattle.cddf_meaning_plain_state.proofs.body_state.BodyState.with_skips.Given as goal

abbrev pub invariant-loop-claim : goal.invariant-loop-claim
invariant-loop-claim l =
    (l.skipping ++ with_skips l.self.moves (drop l.claim-index l.claims) ≡ with_skips l.initial.self.moves l.claims)
    × (moves_behind l.self.moves (drop l.claim-index l.claims) ≡ moves_behind l.initial.self.moves l.claims)
    × (l.self ≡ record l.initial.self { moves = l.self.moves })
