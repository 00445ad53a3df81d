use Rattle.wait_certs_runs.proofs.Filled.{of_codes, of_programs}
use Rattle.wait_certs_runs.proofs.laws.runs_are_of_lawful.Goals as goal

pub returns-clause-programs : goal.returns-clause-programs
returns-clause-programs c = of_programs c.activations_are_lawful.ensures.programs c.bodies_fill_their_outputs.ensures

pub returns-clause-codes : goal.returns-clause-codes
returns-clause-codes c =
    of_codes c.activations_are_lawful.ensures.codes c.tasks_end.ensures.there c.tasks_end.ensures.proper
