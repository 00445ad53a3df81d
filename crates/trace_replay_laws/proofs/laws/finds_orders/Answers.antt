use Rattle.trace_replay_laws.proofs.Heads.{finds}
use Rattle.trace_replay_laws.proofs.laws.finds_orders.Goals as goal

pub returns : goal.returns
returns g c = λ element kept reads body count lists once order other all lawful run. finds element reads body kept count lists once other run order all lawful
