use Rattle.osrun_core_run.proofs.Replays.{one_replay}
use Rattle.osrun_core_run.proofs.laws.one_replay.Goals as goal

pub returns : goal.returns
returns c = one_replay c.one_answer.ensures
