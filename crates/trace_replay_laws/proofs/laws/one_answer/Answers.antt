use Rattle.trace_replay_laws.proofs.Answering.{one}
use Rattle.trace_replay_laws.proofs.laws.one_answer.Goals as goal

pub returns : goal.returns
returns c = one
