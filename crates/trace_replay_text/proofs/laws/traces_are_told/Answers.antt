use Rattle.trace_replay_text.proofs.Traces.{told}
use Rattle.trace_replay_text.proofs.laws.traces_are_told.Goals as goal

pub returns : goal.returns
returns c = told
