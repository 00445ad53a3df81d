use Rattle.wait_certs_runs.proofs.Starving.{of_codes, of_programs}
use Rattle.wait_certs_runs.proofs.laws.runs_starve_by_chains.Goals as goal

pub returns-clause-programs : goal.returns-clause-programs
returns-clause-programs c =
    of_programs c.members_starve.ensures c.one_walk.ensures c.starved_have_chains.ensures c.walks_are_chains.ensures c.all_but_done_have_lines.ensures.lines
    c.runs_are_of_lawful.ensures.programs

pub returns-clause-codes : goal.returns-clause-codes
returns-clause-codes c =
    of_codes c.members_starve.ensures c.one_walk.ensures c.starved_have_chains.ensures c.walks_are_chains.ensures c.all_but_done_have_lines.ensures.lines
    c.runs_are_of_lawful.ensures.codes
