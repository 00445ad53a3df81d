use Rattle.trace_replay_laws.proofs.Lawful.{reached_after}
use Rattle.trace_replay_laws.proofs.laws.lawful_is_reached.Goals as goal

pub returns : goal.returns
returns g c = λ element reads body count lists order lawful. reached_after element reads body count order lawful
