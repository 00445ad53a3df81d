use Rattle.std.proofs.Common.{arith}
use Rattle.flow_core_laws.proofs.Rounds.{round-meaning, outcome_stays, outcome_at-meaning}
use Rattle.flow_core_laws.proofs.Orders.{round_fires, round_leaves, reached_extends, reached_meaning}
use Rattle.flow_core_laws.proofs.laws.any_elements.Goals as goal

pub returns-clause-one_round : goal.returns-clause-one_round
returns-clause-one_round g c = λ element reads body count. record {
  fires = λ s a len lt e. round_fires element reads body s a (omega arith) e;
  leaves = round_leaves element reads body;
}

pub returns-clause-settled : goal.returns-clause-settled
returns-clause-settled g c = round-meaning

pub returns-clause-outcomes_stay : goal.returns-clause-outcomes_stay
returns-clause-outcomes_stay g c = outcome_stays

pub returns-clause-fixed_point : goal.returns-clause-fixed_point
returns-clause-fixed_point g c = outcome_at-meaning

pub returns-clause-confluence : goal.returns-clause-confluence
returns-clause-confluence g c = λ element kept reads body count. record {
  agrees = λ s a o r. (reached_extends element kept reads body count s r).kept a o;
  ends_there = reached_meaning element kept reads body count;
}
