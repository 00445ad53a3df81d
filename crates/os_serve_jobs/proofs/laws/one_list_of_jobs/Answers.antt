use Rattle.os_serve_jobs.proofs.FirstJobs.{one_list, some_jobs}
use Rattle.os_serve_jobs.proofs.laws.one_list_of_jobs.Goals as goal

pub returns-clause-some : goal.returns-clause-some
returns-clause-some c held = some_jobs held

pub returns-clause-one : goal.returns-clause-one
returns-clause-one c = one_list
