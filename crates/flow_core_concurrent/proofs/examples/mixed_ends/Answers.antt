use Rattle.std.proofs.Common.{refl, arith}
use Rattle.flow_core_concurrent.specs.MixedEnds.{known, outcome, choices}
use Rattle.flow_core_concurrent.proofs.Choices.{choices_are_ways}
use Rattle.flow_core_concurrent.proofs.Complete.{complete}
use Rattle.flow_core_concurrent.proofs.Fitting.{mixed_meant, mixed_fit}
use Rattle.flow_core_concurrent.proofs.Steps.{way_is_good}
use Rattle.flow_core_concurrent.proofs.examples.mixed_ends.Goals as goal

pub returns-clause-fit : goal.returns-clause-fit
returns-clause-fit c = mixed_fit

pub returns-clause-meaning : goal.returns-clause-meaning
returns-clause-meaning c = mixed_meant

pub returns-clause-states : goal.returns-clause-states
returns-clause-states c = refl

pub returns-clause-counts_only_a_whole_piece : goal.returns-clause-counts_only_a_whole_piece
returns-clause-counts_only_a_whole_piece c = refl

pub returns-clause-gives_poison_over_budget : goal.returns-clause-gives_poison_over_budget
returns-clause-gives_poison_over_budget c = refl

pub returns-clause-gives_poison_of_a_trap : goal.returns-clause-gives_poison_of_a_trap
returns-clause-gives_poison_of_a_trap c = refl

pub returns-clause-leaves_nothing : goal.returns-clause-leaves_nothing
returns-clause-leaves_nothing c = complete known outcome _ 0 _ mixed_fit.plan_is_sound mixed_meant (way_is_good known _ mixed_fit (choices_are_ways known _ choices refl)) refl refl refl (omega arith)
