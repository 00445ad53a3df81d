use Rattle.cddf_meaning.proofs.Enough.{loop-enough}
use Rattle.cddf_meaning.proofs.laws.loops_end_by_turns_alone.Goals as goal

pub returns : goal.returns
returns c = λ most other test body step s turns ft kb ks. loop-enough most other test body step ft kb ks s turns
