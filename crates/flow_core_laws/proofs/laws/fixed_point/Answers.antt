use Rattle.std.proofs.Common.{length}
use Rattle.flow_core_laws.specs.Poisoning.{poisoning}
use Rattle.flow_core_laws.specs.Streams.{own_number, stream_reads, stream_element}
use Rattle.flow_core_laws.specs.Plans.{number_at, plan_reads, plan_element}
use Rattle.flow_core_laws.proofs.Rounds.{outcome_at-meaning}
use Rattle.flow_core_laws.proofs.Elements.{element_kept}
use Rattle.flow_core_laws.proofs.laws.fixed_point.Goals as goal

pub returns-clause-streams : goal.returns-clause-streams
returns-clause-streams c = λ activations input body. outcome_at-meaning stream_element (element_kept own_number) (stream_reads activations input) (poisoning body) (length activations)

pub returns-clause-plans : goal.returns-clause-plans
returns-clause-plans c = λ plan outcome. outcome_at-meaning (plan_element plan) (element_kept (number_at plan)) (plan_reads plan) (poisoning outcome) (length plan.frames)
