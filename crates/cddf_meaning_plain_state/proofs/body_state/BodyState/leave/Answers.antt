use Rattle.std.proofs.Common.{rules}
use Rattle.cddf_meaning_plain_state.proofs.Places.{drop-reverse}
use Rattle.cddf_meaning_plain_state.proofs.body_state.BodyState.leave.Goals as goal

pub returns : goal.returns
returns c = search (rules, drop-reverse)
