use Rattle.trace_replay_laws.proofs.Heads.{agree, as_many}
use Rattle.trace_replay_laws.proofs.laws.choices_agree.Goals as goal

pub returns : goal.returns
returns g c = λ element kept reads body count lists once order other run runs. (agree element reads body kept count lists once order other run runs, as_many element reads body kept count lists once order other run runs)
