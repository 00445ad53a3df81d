use Rattle.epoch_run_bodies.proofs.Serving.{serves, serves_all}
use Rattle.epoch_run_bodies.proofs.laws.bodies_serve.Goals as goal

pub returns-clause-plans : goal.returns-clause-plans
returns-clause-plans c code activations input budget plan valid all_fit small stands =
    serves c.tasks_end.ensures.there c.tasks_end.ensures.proper code activations input budget plan valid all_fit small stands

pub returns-clause-parts : goal.returns-clause-parts
returns-clause-parts c = serves_all c.tasks_end.ensures.there c.tasks_end.ensures.proper
