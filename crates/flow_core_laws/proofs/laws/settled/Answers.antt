use Rattle.std.proofs.Common.{length}
use Rattle.flow_core_laws.specs.Poisoning.{poisoning}
use Rattle.flow_core_laws.specs.Streams.{stream_reads, stream_element}
use Rattle.flow_core_laws.specs.Plans.{plan_reads, plan_element}
use Rattle.flow_core_laws.proofs.Rounds.{round-meaning}
use Rattle.flow_core_laws.proofs.laws.settled.Goals as goal

pub returns-clause-streams : goal.returns-clause-streams
returns-clause-streams c = λ activations input body. round-meaning stream_element (stream_reads activations input) (poisoning body) (length activations)

pub returns-clause-plans : goal.returns-clause-plans
returns-clause-plans c = λ plan outcome. round-meaning (plan_element plan) (plan_reads plan) (poisoning outcome) (length plan.frames)
