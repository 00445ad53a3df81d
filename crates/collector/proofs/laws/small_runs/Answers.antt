use Rattle.std.proofs.Common.{refl}
use Rattle.std.specs.Fmt.{digits}
use Rattle.flow_core_laws.specs.Place.{input_places}
use Rattle.flow_core_laws.specs.Round.{round, rounds, meaning}
use Rattle.flow_core_laws.specs.Window.{windows}
use Rattle.collector.proofs.laws.small_runs.Goals as goal

pub returns-clause-handed_on : goal.returns-clause-handed_on
unfolding windows input_places meaning rounds round digits
returns-clause-handed_on c = refl

pub returns-clause-two_roots : goal.returns-clause-two_roots
unfolding windows input_places meaning rounds round digits
returns-clause-two_roots c = refl

pub returns-clause-stops_at_poison : goal.returns-clause-stops_at_poison
unfolding windows input_places meaning rounds round digits
returns-clause-stops_at_poison c = refl

pub returns-clause-writes_before_poison : goal.returns-clause-writes_before_poison
unfolding windows input_places meaning rounds round digits
returns-clause-writes_before_poison c = refl
