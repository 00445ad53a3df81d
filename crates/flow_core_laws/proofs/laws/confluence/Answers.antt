use Rattle.std.proofs.Common.{length}
use Rattle.flow_core_laws.specs.Poisoning.{poisoning}
use Rattle.flow_core_laws.specs.Streams.{own_number, stream_reads, stream_element}
use Rattle.flow_core_laws.specs.Plans.{number_at, plan_reads, plan_element}
use Rattle.flow_core_laws.proofs.Orders.{reached_extends, reached_meaning}
use Rattle.flow_core_laws.proofs.Elements.{element_kept}
use Rattle.flow_core_laws.proofs.laws.confluence.Goals as goal

pub returns-clause-streams : goal.returns-clause-streams
returns-clause-streams c = λ activations input body. record {
  agrees = λ s a o r. (reached_extends stream_element (element_kept own_number) (stream_reads activations input) (poisoning body) (length activations) s r).kept a o;
  ends_there = reached_meaning stream_element (element_kept own_number) (stream_reads activations input) (poisoning body) (length activations);
}

pub returns-clause-plans : goal.returns-clause-plans
returns-clause-plans c = λ plan outcome. record {
  agrees = λ s a o r. (reached_extends (plan_element plan) (element_kept (number_at plan)) (plan_reads plan) (poisoning outcome) (length plan.frames) s r).kept a o;
  ends_there = reached_meaning (plan_element plan) (element_kept (number_at plan)) (plan_reads plan) (poisoning outcome) (length plan.frames);
}
