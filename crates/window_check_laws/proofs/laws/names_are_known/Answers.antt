use Rattle.window_check_laws.proofs.Known.{stands-in}
use Rattle.window_check_laws.proofs.laws.names_are_known.Goals as goal

pub returns : goal.returns
returns c p n leveled none there = stands-in p n leveled none there
