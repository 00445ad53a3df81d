use Rattle.wait_certs_runs.proofs.Steps.{in_all, of_main}
use Rattle.wait_certs_runs.proofs.laws.runs_take_few_steps.Goals as goal

pub returns-clause-of_main : goal.returns-clause-of_main
returns-clause-of_main c = of_main c.main_ends.ensures.there c.main_ends.ensures.one

pub returns-clause-in_all : goal.returns-clause-in_all
returns-clause-in_all c =
    in_all c.main_ends.ensures.there c.tasks_end.ensures.there c.activations_are_lawful.ensures.codes
