use Rattle.osrun_core_laws.proofs.Chains.{of_jobs, of_lines, of_objects}
use Rattle.osrun_core_laws.proofs.laws.jobs_starve_by_chains.Goals as goal

pub returns-clause-programs : goal.returns-clause-programs
returns-clause-programs c = of_jobs c.runs_starve_by_chains.ensures.programs

pub returns-clause-objects : goal.returns-clause-objects
returns-clause-objects c = of_objects c.runs_starve_by_chains.ensures.codes

pub returns-clause-lines : goal.returns-clause-lines
returns-clause-lines c = of_lines (of_jobs c.runs_starve_by_chains.ensures.programs)
