use Rattle.std.proofs.Common.{arith}
use Rattle.flow_core_laws.specs.Poisoning.{poisoning}
use Rattle.flow_core_laws.specs.Streams.{stream_reads, stream_element}
use Rattle.flow_core_laws.specs.Plans.{plan_reads, plan_element}
use Rattle.flow_core_laws.proofs.Orders.{round_fires, round_leaves}
use Rattle.flow_core_laws.proofs.laws.one_round.Goals as goal

pub returns-clause-streams : goal.returns-clause-streams
returns-clause-streams c = λ activations input body. record {
  fires = λ s a len lt e. round_fires stream_element (stream_reads activations input) (poisoning body) s a (omega arith) e;
  leaves = round_leaves stream_element (stream_reads activations input) (poisoning body);
}

pub returns-clause-plans : goal.returns-clause-plans
returns-clause-plans c = λ plan outcome. record {
  fires = λ s a len lt e. round_fires (plan_element plan) (plan_reads plan) (poisoning outcome) s a (omega arith) e;
  leaves = round_leaves (plan_element plan) (plan_reads plan) (poisoning outcome);
}
