use Rattle.std.proofs.Common.{arith}
use Rattle.cddf_meaning_plain_state.proofs.Horizons.{all_with, horizon_sum-with_skips, within}
use Rattle.cddf_meaning_plain_state.proofs.body_state.BodyState.create.Goals as goal

pub invariant_of-self-2 : goal.invariant_of-self-2
invariant_of-self-2 c = grind (arith, all_with, horizon_sum-with_skips, within)
